use Rattle.std.proofs.Common.{rules}
use Rattle.states_command.specs.Answer.{tells_states}
use Rattle.states_command.proofs.AnswerLaws.{IsStatesAnswer-fault}
use Rattle.states_command.proofs.program.states_answer.Goals as goal

pub returns-in-Ok-clause-ok : goal.returns-in-Ok-clause-ok
returns-in-Ok-clause-ok g c = tells_states c.in-Ok.text.items c.in-Ok.ensures.states

pub returns-in-Err-Trace-clause-ok : goal.returns-in-Err-Trace-clause-ok
returns-in-Err-Trace-clause-ok g c =
    IsStatesAnswer-fault c.args.text.now c.in-Err-Trace.fault c.fault_answer.result (search rules) c.fault_answer.ensures.ok
