use Rattle.std.proofs.Common.{◌≡◌, ◌<◌, ◌≤◌, ◌==◌, ℕ, false, slice_index}
use Rattle.log_notes.proofs.part.last_start.Given as goal

-- no feed stands from here up to the end
abbrev pub invariant-loop-start : goal.invariant-loop-start
invariant-loop-start l = record {
  within : l.start ≤ l.end;
  line : (j : ℕ) → l.start ≤ j → j < l.end → (slice_index l.text j == 10) ≡ false;
}

abbrev pub decreases-loop-start : goal.decreases-loop-start
decreases-loop-start l = l.start
