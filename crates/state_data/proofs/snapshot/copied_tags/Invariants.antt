use Rattle.std.proofs.Common.{◌≡◌, ◌<◌, ◌*◌, ℕ, length}
use Rattle.tag_memory.specs.Tags.{is_set_for, is_tagged}
use Rattle.state_data.proofs.snapshot.copied_tags.Given as goal

abbrev pub invariant-loop-w : goal.invariant-loop-w
invariant-loop-w l = (64 * length l.tags.items ≡ length l.memory.granules) × ((k : ℕ) → k < 64 * l.w → is_set_for l.tags.items k ≡ is_tagged l.memory.granules k)
