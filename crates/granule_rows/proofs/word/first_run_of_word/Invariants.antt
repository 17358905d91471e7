use Rattle.std.proofs.Common.{◌<◌, ◌≤◌, ◌-◌}
use Rattle.granule_rows.specs.Starts.{AreStarts}
use Rattle.granule_rows.proofs.word.first_run_of_word.Given as goal

abbrev pub invariant-loop-have : goal.invariant-loop-have
invariant-loop-have l = record {
  some : 0 < l.have;
  most : l.have ≤ l.n;
  starts : AreStarts l.word l.starts l.have;
}

abbrev pub decreases-loop-have : goal.decreases-loop-have
decreases-loop-have l = l.n - l.have
