use Rattle.std.proofs.Common.{arith, rules}
use Rattle.cap_codec.specs.Rounding.{Fits}
use Rattle.cap_codec.proofs.RoundingLaws.{exponent_for-is, fits_at_52}
use Rattle.cap_codec.proofs.plain.rounding.first_exponent.Goals as goal

pub returns-then-fits-clause-value : goal.returns-then-fits-clause-value
returns-then-fits-clause-value c =
    let f : Fits c.args.base c.args.top c.loop-exponent.exponent = search rules in
    exponent_for-is c.args.base c.args.top c.loop-exponent.exponent c.requires.order c.requires.room f c.loop-exponent.invariant

pub returns-clause-value : goal.returns-clause-value
returns-clause-value c =
    exponent_for-is c.args.base c.args.top 52 c.requires.order c.requires.room (fits_at_52 c.args.base c.args.top c.requires.order c.requires.room)
    (λ k l. c.loop-exponent.invariant k (omega arith))
