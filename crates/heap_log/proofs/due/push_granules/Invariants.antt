use Rattle.std.proofs.Common.{◌≡◌, ◌++◌}
use Rattle.heap_model.specs.Heap.{due}
use Rattle.heap_log.specs.Due.{due_granules}
use Rattle.heap_log.proofs.due.push_granules.Given as goal

abbrev pub invariant-loop-i : goal.invariant-loop-i
invariant-loop-i l =
    l.words.items ≡ l.fn.words.items ++ due_granules (due l.machine.state.heap) l.machine.state.heap.base l.machine.state.granules l.i
