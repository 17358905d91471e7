use Rattle.std.proofs.Common.{◌≡◌, ◌<◌, ◌≤◌, ◌*◌, ℕ, slice_index}
use Rattle.tag_memory.proofs.pages.has_tags.Given as goal

abbrev pub invariant-loop-w : goal.invariant-loop-w
invariant-loop-w l = (k : ℕ) → 4 * l.page ≤ k → k < l.w → slice_index l.tags k ≡ 0
