use Rattle.std.proofs.Common.{◌≡◌, ◌≤◌, ◌+◌, ◌/◌, ℕ}
use Rattle.granule_rows.specs.Tree.{AreSummed, node}
use Rattle.granule_rows.proofs.tree.renew_level.Given as goal

abbrev pub invariant-loop-k : goal.invariant-loop-k
invariant-loop-k l = record {
  summed : AreSummed l.leaves l.nodes l.k l.end (l.low / 2) ((l.end + 1) / 2);
  leaves : (i : ℕ) → l.leaves ≤ i → node l.nodes i ≡ node l.initial.nodes i;
}
