use Rattle.std.proofs.Common.{◌-◌, ◌≡◌, ◌≤◌, ℕ, length}
use Rattle.granule_rows.specs.Runs.{AreSet}
use Rattle.granule_rows.specs.Tree.{IsNode, node}
use Rattle.tag_memory.specs.Tags.{is_set_for}
use Rattle.granule_rows.proofs.find.first_in.Given as goal

abbrev pub invariant-loop-at : goal.invariant-loop-at
invariant-loop-at l = record {
  leaves : l.leaves ≡ length l.words;
  place : IsNode (length l.words) l.at l.start;
  has : l.n ≤ (node l.nodes l.at).longest;
  from : l.first ≤ l.start;
  before : (q : ℕ) → l.first ≤ q → AreSet (is_set_for l.words) q l.n → l.start ≤ q;
}

abbrev pub decreases-loop-at : goal.decreases-loop-at
decreases-loop-at l = l.leaves - l.at
