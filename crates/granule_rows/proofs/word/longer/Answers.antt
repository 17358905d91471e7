use Rattle.std.proofs.Common.{arith}
use Rattle.granule_rows.proofs.WordLaws.{IsNearLongest-longer, IsNearLongest-same}
use Rattle.granule_rows.proofs.word.longer.Goals as goal

pub returns-then-bits-eq0-clause-near : goal.returns-then-bits-eq0-clause-near
returns-then-bits-eq0-clause-near c = λ word added near. IsNearLongest-same near added c.if-bits-eq0.true

pub returns-clause-near : goal.returns-clause-near
returns-clause-near c = λ word added near. IsNearLongest-longer near added (omega arith)
