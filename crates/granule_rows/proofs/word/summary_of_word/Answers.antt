use Rattle.granule_rows.proofs.WordLaws.{IsLeaf-full, IsLeaf-part}
use Rattle.granule_rows.proofs.word.summary_of_word.Goals as goal

pub returns-then-zeros-eq0 : goal.returns-then-zeros-eq0
returns-then-zeros-eq0 c = IsLeaf-full c.args.word c.ranges.word.fits c.if-zeros-eq0.true

pub returns : goal.returns
returns c = IsLeaf-part c.args.word c.longest_run.result c.ranges.word.fits c.if-zeros-eq0.false c.longest_run.ensures.run c.longest_run.ensures.most
