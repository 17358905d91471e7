use Rattle.check_command.proofs.BesideLaws.{said_part}
use Rattle.check_command.proofs.program.say.Goals as goal

pub returns-in_default-clause-said : goal.returns-in_default-clause-said
returns-in_default-clause-said g c = λ e. said_part c.args.log.now c.args.status _ _ _ c.say_part.ensures.said
