use Rattle.std.proofs.Common.{◌+◌, ◌*◌}
use Rattle.sweep_masks.specs.Masks.{is_hit_at}
use Rattle.tag_memory.specs.Tags.{is_tagged}
use Rattle.sweep_masks.specs.MaskLaws.{AreTagsLeft}
use Rattle.sweep_masks.proofs.sweep.tagged_mask.Given as goal

abbrev pub invariant-loop-rest : goal.invariant-loop-rest
invariant-loop-rest l = AreTagsLeft (λ k. is_tagged l.memory.granules (64 * l.w + k)) (λ k. is_hit_at l.memory l.shadow (64 * l.w + k)) l.rest l.mask

abbrev pub decreases-loop-rest : goal.decreases-loop-rest
decreases-loop-rest l = l.rest
