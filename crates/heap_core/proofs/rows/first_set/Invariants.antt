use Rattle.std.proofs.Common.{◌≡◌, ◌<◌, ◌≤◌, ◌*◌, ℕ, false}
use Rattle.tag_memory.specs.Tags.{is_set_for}
use Rattle.heap_core.proofs.rows.first_set.Given as goal

abbrev pub invariant-loop-w : goal.invariant-loop-w
invariant-loop-w l = (k : ℕ) → 64 * l.from ≤ k → k < 64 * l.w → is_set_for l.row k ≡ false
