use Rattle.std.proofs.Common.{◌+◌, ◌*◌}
use Rattle.heap_model.specs.Heap.{due}
use Rattle.sweep_masks.specs.Masks.{takes_tag_at}
use Rattle.sweep_masks.specs.MaskLaws.{AreTagsLeft}
use Rattle.tag_memory.specs.Tags.{is_tagged}
use Rattle.machine_storage.proofs.storage.Storage.due_mask.Given as goal

abbrev pub invariant-loop-rest : goal.invariant-loop-rest
invariant-loop-rest l = AreTagsLeft (λ k. is_tagged l.self.memory.granules (64 * l.w + k)) (λ k. takes_tag_at l.self.memory (due l.self.heap) (64 * l.w + k)) l.rest l.mask

abbrev pub decreases-loop-rest : goal.decreases-loop-rest
decreases-loop-rest l = l.rest
