use Rattle.std.proofs.Common.{arith, rules}
use Rattle.cap_codec.proofs.ExponentLaws.{IsHighest-of, lowest-is, raised-is, short-is}
use Rattle.cap_codec.proofs.RoundingLaws.{exponent_for-le}
use Rattle.cap_codec.proofs.rounding.least_exponent.Goals as goal

pub returns-then-length-lt-SHORT-clause-value : goal.returns-then-length-lt-SHORT-clause-value
returns-then-length-lt-SHORT-clause-value c = short-is c.args.base c.args.top c.requires.order c.requires.room (omega arith)

pub overflow_sub-exponent : goal.overflow_sub-exponent
overflow_sub-exponent c =
    let x = IsHighest-of c.args.base c.args.top c.ilog2.result c.requires.room (omega arith) (omega arith) (omega arith) in
    x.from

pub fits-requires-clause-exponent : goal.fits-requires-clause-exponent
fits-requires-clause-exponent c =
    let x = IsHighest-of c.args.base c.args.top c.ilog2.result c.requires.room (omega arith) (omega arith) (omega arith) in
    omega (arith, x.limit)

pub returns-then-fits-clause-value : goal.returns-then-fits-clause-value
returns-then-fits-clause-value c =
    let x = IsHighest-of c.args.base c.args.top c.ilog2.result c.requires.room (omega arith) (omega arith) (omega arith) in
    lowest-is c.args.base c.args.top c.ilog2.result c.requires.order c.requires.room x (search rules)

pub returns-then-fits-clause-limit : goal.returns-then-fits-clause-limit
returns-then-fits-clause-limit c = omega (arith, returns-then-fits-clause-value c, exponent_for-le c.args.base c.args.top)

pub returns-else-fits-clause-value : goal.returns-else-fits-clause-value
returns-else-fits-clause-value c =
    let x = IsHighest-of c.args.base c.args.top c.ilog2.result c.requires.room (omega arith) (omega arith) (omega arith) in
    raised-is c.args.base c.args.top c.ilog2.result c.requires.order c.requires.room x (search rules)

pub returns-else-fits-clause-limit : goal.returns-else-fits-clause-limit
returns-else-fits-clause-limit c = omega (arith, returns-else-fits-clause-value c, exponent_for-le c.args.base c.args.top)
