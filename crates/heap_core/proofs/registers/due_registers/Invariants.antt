use Rattle.heap_model.specs.Heap.{due}
use Rattle.heap_model.specs.Sweep.{takes_tag}
use Rattle.tag_memory.specs.Cells.{register_at}
use Rattle.heap_model.specs.BelowLaws.{AreBelow}
use Rattle.heap_core.proofs.registers.due_registers.Given as goal

abbrev pub invariant-loop-r : goal.invariant-loop-r
invariant-loop-r l = AreBelow (λ r. takes_tag (due l.heap) (register_at l.registers r)) l.mask l.r
