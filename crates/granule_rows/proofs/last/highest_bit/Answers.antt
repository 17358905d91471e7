use Rattle.granule_rows.proofs.LastLaws.{highest_one}
use Rattle.granule_rows.proofs.last.highest_bit.Goals as goal

pub returns-clause-one : goal.returns-clause-one
returns-clause-one c = (highest_one c.args.word c.requires c.ranges.word.fits).0

pub returns-clause-above : goal.returns-clause-above
returns-clause-above c = (highest_one c.args.word c.requires c.ranges.word.fits).1
