use Rattle.std.proofs.Common.{◌<◌, ℕ}
use Rattle.tag_memory.specs.Cells.{register_at}
use Rattle.machine_steps.specs.Safety.{IsGuarded}
use Rattle.heap_machine.proofs.machine.making.first_unguarded_register.Given as goal

abbrev pub invariant-loop-r : goal.invariant-loop-r
invariant-loop-r l = (k : ℕ) → k < l.r → IsGuarded l.heap (register_at l.registers k)
