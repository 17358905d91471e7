use Rattle.sweep_masks.specs.Masks.{is_hit}
use Rattle.tag_memory.specs.Cells.{register_at}
use Rattle.heap_model.specs.BelowLaws.{AreBelow}
use Rattle.sweep_masks.proofs.sweep.swept_registers.Given as goal

abbrev pub invariant-loop-r : goal.invariant-loop-r
invariant-loop-r l = AreBelow (λ r. is_hit l.shadow l.base (register_at l.registers r)) l.mask l.r
