use Rattle.std.proofs.Common.{◌≡◌, ◌++◌}
use Rattle.heap_model.specs.Heap.{due}
use Rattle.heap_log.specs.Due.{due_registers}
use Rattle.heap_log.proofs.due.push_registers.Given as goal

abbrev pub invariant-loop-register : goal.invariant-loop-register
invariant-loop-register l =
    l.words.items ≡ l.fn.words.items ++ due_registers (due l.machine.state.heap) l.machine.state.registers l.register
