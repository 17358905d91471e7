use Rattle.std.proofs.Common.{◌<◌, ◌≤◌, ◌+◌, ◌/◌, ℕ, length, get_or}
use Rattle.granule_rows.specs.Tree.{AreSummed, IsLeaf, node}
use Rattle.granule_rows.proofs.tree.renew.Given as goal

abbrev pub invariant-loop-w : goal.invariant-loop-w
invariant-loop-w l = record {
  summed : AreSummed (length l.words) l.nodes 0 0 ((length l.words + l.first) / 2) ((length l.words + l.end + 1) / 2);
  leaves : (v : ℕ) → v < length l.words → (l.w ≤ v → l.end ≤ v) → IsLeaf (get_or l.words v 0) (node l.nodes (length l.words + v));
}
