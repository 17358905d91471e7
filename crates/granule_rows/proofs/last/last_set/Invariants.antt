use Rattle.granule_rows.proofs.LastLaws.{IsReached}
use Rattle.granule_rows.proofs.last.last_set.Given as goal

abbrev pub invariant-loop-word : goal.invariant-loop-word
invariant-loop-word l = IsReached l.row l.at l.w l.word

abbrev pub decreases-loop-word : goal.decreases-loop-word
decreases-loop-word l = l.w
