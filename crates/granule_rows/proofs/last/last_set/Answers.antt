use Rattle.granule_rows.proofs.LastLaws.{IsReached-first}
use Rattle.granule_rows.proofs.last.last_set.Goals as goal

pub loop-word-init : goal.loop-word-init
loop-word-init c = IsReached-first c.args.row.now c.args.at c.run_word.result c.run_word.ensures
