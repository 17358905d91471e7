use Rattle.std.proofs.Common.{◌≡◌, ◌≤◌, ◌+◌, ◌-◌, ◌%◌, ℕ}
use Rattle.granule_rows.specs.Runs.{IsRun}
use Rattle.granule_rows.proofs.row.FreeRow.first_multiple.Given as goal

abbrev pub invariant-loop-from : goal.invariant-loop-from
invariant-loop-from l = record {
  multiple : (l.origin + l.from) % l.unit ≡ 0;
  before : (q : ℕ) → IsRun l.self q l.n → (l.origin + q) % l.unit ≡ 0 → l.from ≤ q;
}

abbrev pub decreases-loop-from : goal.decreases-loop-from
decreases-loop-from l = l.end - l.from
