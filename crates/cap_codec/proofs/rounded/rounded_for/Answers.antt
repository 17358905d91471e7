use Rattle.std.proofs.Common.{◌+◌, arith}
use Rattle.cap_codec.proofs.RoundingLaws.{round_down-le, round_up-room}
use Rattle.cap_codec.proofs.rounded.rounded_for.Goals as goal

pub returns-clause-base : goal.returns-clause-base
returns-clause-base c = omega (arith, round_down-le (c.args.exponent + 3) c.args.base)

pub returns-clause-top : goal.returns-clause-top
returns-clause-top c = rw c.power.ensures.value (omega (arith, round_up-room c.args.exponent c.args.top c.requires.exponent c.requires.room))

pub returns-clause-limit : goal.returns-clause-limit
returns-clause-limit c = rw (returns-clause-top c) (round_up-room c.args.exponent c.args.top c.requires.exponent c.requires.room)
