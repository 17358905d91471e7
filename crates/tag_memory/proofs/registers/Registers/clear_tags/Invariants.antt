use Rattle.tag_memory.proofs.ClearedRegisters.{AreCleared}
use Rattle.tag_memory.proofs.registers.Registers.clear_tags.Given as goal

abbrev pub invariant-loop-r : goal.invariant-loop-r
invariant-loop-r l = AreCleared l.initial.self-inside.cells l.mask l.self-inside.cells l.r
