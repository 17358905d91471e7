use Rattle.cap_codec.proofs.RoundingLaws.{round_up-room}
use Rattle.cap_codec.proofs.plain.rounding.rounded_for.Goals as goal

pub returns-clause-limit : goal.returns-clause-limit
returns-clause-limit c = rw c.power-unit.ensures.value (round_up-room c.args.exponent c.args.top c.requires.exponent c.requires.room)
