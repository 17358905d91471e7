use Rattle.std.proofs.Common.{◌≤◌, ◌*◌, ◌/◌, length}
use Rattle.granule_rows.proofs.NextLaws.{IsPassed, IsPath}
use Rattle.granule_rows.specs.Runs.{test_from}
use Rattle.tag_memory.specs.Tags.{is_set_for}
use Rattle.granule_rows.proofs.find.first_from.Given as goal

abbrev pub invariant-loop-at : goal.invariant-loop-at
invariant-loop-at l = record {
  path : IsPath (length l.words) l.at l.end;
  passed : IsPassed (test_from l.from (is_set_for l.words)) (64 * (l.from / 64)) l.end l.ones l.n;
  long : l.from ≤ l.end;
}

abbrev pub decreases-loop-at : goal.decreases-loop-at
decreases-loop-at l = l.at
