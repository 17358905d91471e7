use Rattle.granule_rows.proofs.RangeLaws.{is_set-run}
use Rattle.granule_rows.proofs.ranges.run_word.Goals as goal

pub returns : goal.returns
returns c = λ j lt. is_set-run c.args.low c.args.high j c.requires.low c.requires.high lt
