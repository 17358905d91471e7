use Rattle.std.proofs.Common.{ap, rules, Err}
use Rattle.command_line.specs.Asked.{NamesStates, texts}
use Rattle.command_line.specs.Laws.{NamesStates-limits}
use Rattle.program_devices.specs.Answer.{refusal_line, refusal_status, status_of, text_of}
use Rattle.program_devices.specs.Laws.{BeginsAnswer-told, BeginsAnswer-unwritten, HasAnswered-told}
use Rattle.check_command.specs.Answer.{IsAnswer, lacks_memory}
use Rattle.check_command.specs.Text.{usage_line}
use Rattle.check_command.proofs.AnswerLaws.{IsAnswer-refusal, IsAnswer-judged}
use Rattle.check_command.proofs.program.check_tool.Given.{Over}
use Rattle.check_command.proofs.program.check_tool.Goals.{After-drop-text}
use Rattle.check_command.proofs.program.check_tool.Goals as goal

-- ---- a log that is judged

pub check_answer-requires-clause-limits : goal.check_answer-requires-clause-limits
check_answer-requires-clause-limits g c = λ lifetimes outlives. NamesStates-limits (texts c.args.words.now) c.in-Ok.options (search rules)

judged_is : (g : Over) (c : After-drop-text g) → IsAnswer (texts c.args.words.now) (g.I.Source.remaining c.args.reader.now) (g.I.Source.remaining c.read_text.new.reader) (status_of c.check_answer.result) (text_of usage_line c.check_answer.result)
judged_is g c =
    let named : NamesStates (texts c.args.words.now) c.in-Ok.options = search rules in
    IsAnswer-judged (texts c.args.words.now) _ _ c.in-Ok-read_text.text.items c.in-Ok.options c.check_answer.result named c.in-Ok-read_text.ensures.ok (search rules) c.check_answer.ensures.memory

pub returns-in-Ok-read_text-clause-complete : goal.returns-in-Ok-read_text-clause-complete
returns-in-Ok-read_text-clause-complete g c = λ e. HasAnswered-told _ _ _ _ _ _ (judged_is g c) (c.give-status.ensures.complete e)

pub returns-in-Ok-read_text-clause-part : goal.returns-in-Ok-read_text-clause-part
returns-in-Ok-read_text-clause-part g c = λ e. BeginsAnswer-told _ _ _ _ _ (judged_is g c) (c.give-status.ensures.part e)

-- ---- a text that wasn't read

pub returns-in-Err-Memory-clause-complete : goal.returns-in-Err-Memory-clause-complete
returns-in-Err-Memory-clause-complete g c = λ e. HasAnswered-told _ _ _ _ _ _ lacks_memory (c.refuse.ensures.complete e)

pub returns-in-Err-Memory-clause-part : goal.returns-in-Err-Memory-clause-part
returns-in-Err-Memory-clause-part g c = λ e. BeginsAnswer-told _ _ _ _ _ lacks_memory (c.refuse.ensures.part e)

pub returns-in-Err-Failed-clause-part : goal.returns-in-Err-Failed-clause-part
returns-in-Err-Failed-clause-part g c = λ e. BeginsAnswer-unwritten _ _ lacks_memory

-- ---- refused words

refused : (g : Over) (c : goal.After-refuse-in-Err g) → IsAnswer (texts c.args.words.now) (g.I.Source.remaining c.args.reader.now) (g.I.Source.remaining c.args.reader.now) (refusal_status c.in-Err.refusal) (refusal_line usage_line c.in-Err.refusal)
refused g c = IsAnswer-refusal (texts c.args.words.now) _ _ c.in-Err.refusal (λ e. c.in-Err.ensures.refused (ap Err e))

pub returns-in-Err-clause-complete : goal.returns-in-Err-clause-complete
returns-in-Err-clause-complete g c = λ e. HasAnswered-told _ _ _ _ _ _ (refused g c) (c.refuse-in-Err.ensures.complete e)

pub returns-in-Err-clause-part : goal.returns-in-Err-clause-part
returns-in-Err-clause-part g c = λ e. BeginsAnswer-told _ _ _ _ _ (refused g c) (c.refuse-in-Err.ensures.part e)
