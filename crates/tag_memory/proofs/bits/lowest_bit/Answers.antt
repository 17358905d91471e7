use Rattle.std.proofs.Common.{w64}
use Rattle.std.proofs.lemmas.Nat.Bits.{bit_at-trailing_zeros}
use Rattle.tag_memory.specs.Laws.{same_test}
use Rattle.tag_memory.proofs.bits.lowest_bit.Goals as goal

pub returns-clause-one : goal.returns-clause-one
returns-clause-one c = same_test _ 1 (bit_at-trailing_zeros w64 c.args.word c.requires c.ranges.word.fits).1

pub returns-clause-below : goal.returns-clause-below
returns-clause-below c k lt = same_test _ 0 ((bit_at-trailing_zeros w64 c.args.word c.requires c.ranges.word.fits).2 k lt)
