use Rattle.std.proofs.Common.{arith}
use Rattle.granule_rows.proofs.WordLaws.{run_fits}
use Rattle.granule_rows.proofs.find.first_run_in.Goals as goal

pub returns-then-n-gt-WORD_GRANULES : goal.returns-then-n-gt-WORD_GRANULES
returns-then-n-gt-WORD_GRANULES c = λ q run. omega (arith, run_fits c.args.word q c.args.n c.ranges.word.fits run c.requires)
