use Rattle.std.proofs.Common.{ap, rules, Err}
use Rattle.command_line.specs.Asked.{texts}
use Rattle.program_devices.specs.Answer.{refusal_line, refusal_status, status_of, text_of}
use Rattle.program_devices.specs.Laws.{BeginsAnswer-told, BeginsAnswer-unwritten, HasAnswered-told}
use Rattle.revoker_command.specs.Answer.{IsAnswer, lacks_memory, usage_line}
use Rattle.revoker_command.specs.Words.{NamesPlan}
use Rattle.revoker_command.proofs.AnswerLaws.{IsAnswer-plan, IsAnswer-refusal, IsPlanAnswer-status, NamesPlan-limits}
use Rattle.revoker_command.proofs.program.plan_tool.Given.{Over}
use Rattle.revoker_command.proofs.program.plan_tool.Goals.{After-drop-text}
use Rattle.revoker_command.proofs.program.plan_tool.Goals as goal

-- ---- the log of a plan

pub answer_for-requires-clause-limits : goal.answer_for-requires-clause-limits
answer_for-requires-clause-limits g c = λ lifetimes outlives. NamesPlan-limits (texts c.args.words.now) c.in-Ok.choice (search rules)

log_is : (g : Over) (c : After-drop-text g) → IsAnswer (texts c.args.words.now) (g.I.Source.remaining c.args.reader.now) (g.I.Source.remaining c.read_text.new.reader) (status_of c.answer_for.result) (text_of usage_line c.answer_for.result)
log_is g c =
    let named : NamesPlan (texts c.args.words.now) c.in-Ok.choice = search rules in
    IsAnswer-plan (texts c.args.words.now) _ _ c.in-Ok-read_text.text.items c.in-Ok.choice c.answer_for.result named c.in-Ok-read_text.ensures.ok (search rules) c.answer_for.ensures.err

pub returns-in-Ok-read_text-clause-complete : goal.returns-in-Ok-read_text-clause-complete
returns-in-Ok-read_text-clause-complete g c = λ e. HasAnswered-told _ _ _ _ _ _ (log_is g c) (c.give.ensures.complete e)

pub returns-in-Ok-read_text-clause-part : goal.returns-in-Ok-read_text-clause-part
returns-in-Ok-read_text-clause-part g c = λ e. BeginsAnswer-told _ _ _ _ _ (log_is g c) (c.give.ensures.part e)

-- ---- a text that wasn't read

pub returns-in-Err-Memory-clause-complete : goal.returns-in-Err-Memory-clause-complete
returns-in-Err-Memory-clause-complete g c = λ e. HasAnswered-told _ _ _ _ _ _ lacks_memory (c.refuse.ensures.complete e)

pub returns-in-Err-Memory-clause-part : goal.returns-in-Err-Memory-clause-part
returns-in-Err-Memory-clause-part g c = λ e. BeginsAnswer-told _ _ _ _ _ lacks_memory (c.refuse.ensures.part e)

pub returns-in-Err-Failed-clause-part : goal.returns-in-Err-Failed-clause-part
returns-in-Err-Failed-clause-part g c = λ e. BeginsAnswer-unwritten _ _ lacks_memory

-- ---- refused words

refused : (g : Over) (c : goal.After-refuse-in-Err g) → IsAnswer (texts c.args.words.now) (g.I.Source.remaining c.args.reader.now) (g.I.Source.remaining c.args.reader.now) (refusal_status c.in-Err.refusal) (refusal_line usage_line c.in-Err.refusal)
refused g c = IsAnswer-refusal (texts c.args.words.now) _ _ c.in-Err.refusal (λ e. c.in-Err.ensures.refused (ap Err e))

pub returns-in-Err-clause-complete : goal.returns-in-Err-clause-complete
returns-in-Err-clause-complete g c = λ e. HasAnswered-told _ _ _ _ _ _ (refused g c) (c.refuse-in-Err.ensures.complete e)

pub returns-in-Err-clause-part : goal.returns-in-Err-clause-part
returns-in-Err-clause-part g c = λ e. BeginsAnswer-told _ _ _ _ _ (refused g c) (c.refuse-in-Err.ensures.part e)

pub give-requires-clause-status : goal.give-requires-clause-status
give-requires-clause-status g c = IsPlanAnswer-status c.in-Ok.choice.way _ c.answer_for.result c.answer_for.ensures.ok
