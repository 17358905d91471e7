use Rattle.std.proofs.Common.{◌≡◌, ◌≤◌, ℕ}
use Rattle.granule_rows.specs.Tree.{AreSummed, node}
use Rattle.granule_rows.proofs.tree.renew_above.Given as goal

abbrev pub invariant-loop-to : goal.invariant-loop-to
invariant-loop-to l = record {
  summed : AreSummed l.leaves l.nodes l.from l.to 0 0;
  end : l.to ≤ l.leaves;
  leaves : (i : ℕ) → l.leaves ≤ i → node l.nodes i ≡ node l.initial.nodes i;
}

abbrev pub decreases-loop-to : goal.decreases-loop-to
decreases-loop-to l = l.to
