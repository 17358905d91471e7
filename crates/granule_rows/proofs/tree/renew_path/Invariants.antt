use Rattle.std.proofs.Common.{◌≡◌, ◌<◌, ◌≤◌, ◌+◌, ℕ}
use Rattle.granule_rows.specs.Tree.{AreSummed, node}
use Rattle.granule_rows.proofs.tree.renew_path.Given as goal

abbrev pub invariant-loop-here : goal.invariant-loop-here
invariant-loop-here l = record {
  summed : AreSummed l.leaves l.nodes l.here (l.here + 1) 0 0;
  end : l.here < l.leaves;
  leaves : (i : ℕ) → l.leaves ≤ i → node l.nodes i ≡ node l.initial.nodes i;
}

abbrev pub decreases-loop-here : goal.decreases-loop-here
decreases-loop-here l = l.here
