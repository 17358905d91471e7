use Rattle.std.proofs.Common.{ap, rules, Err}
use Rattle.command_line.specs.Asked.{NamesRun, NamesWord, texts}
use Rattle.command_line.specs.Laws.{NamesRun-limits}
use Rattle.program_devices.specs.Answer.{refusal_line, refusal_status, status_of, text_of}
use Rattle.program_devices.specs.Laws.{BeginsAnswer-told, BeginsAnswer-unwritten, HasAnswered-told}
use Rattle.heap_command.specs.Answer.{IsAnswer, lacks_memory}
use Rattle.heap_command.specs.Text.{usage_line}
use Rattle.heap_command.proofs.AnswerLaws.{IsAnswer-refusal, IsAnswer-run, IsAnswer-word, IsRunAnswer-status}
use Rattle.heap_command.proofs.program.tool.Given.{Over}
use Rattle.heap_command.proofs.program.tool.Goals as goal

-- ---- the line of a word

word_is : (g : Over) (c : goal.After-give g) → IsAnswer (texts c.args.words.now) (g.I.Source.remaining c.args.reader.now) (g.I.Source.remaining c.args.reader.now) (status_of c.word_answer.result) (text_of usage_line c.word_answer.result)
word_is g c =
    let named : NamesWord (texts c.args.words.now) c.in-Ok-Word.hex.now = search rules in
    IsAnswer-word (texts c.args.words.now) _ _ c.in-Ok-Word.hex.now c.word_answer.result named c.word_answer.ensures.status c.word_answer.ensures.ok c.word_answer.ensures.refused

pub returns-in-Ok-Word-clause-complete : goal.returns-in-Ok-Word-clause-complete
returns-in-Ok-Word-clause-complete g c = λ e. HasAnswered-told _ _ _ _ _ _ (word_is g c) (c.give.ensures.complete e)

pub returns-in-Ok-Word-clause-part : goal.returns-in-Ok-Word-clause-part
returns-in-Ok-Word-clause-part g c = λ e. BeginsAnswer-told _ _ _ _ _ (word_is g c) (c.give.ensures.part e)

-- ---- the run of a trace

pub run_answer-requires-clause-limits : goal.run_answer-requires-clause-limits
run_answer-requires-clause-limits g c = λ lifetimes outlives. NamesRun-limits (texts c.args.words.now) c.in-Ok-Run.options (search rules)

pub give-requires-in-Ok-clause-status : goal.give-requires-in-Ok-clause-status
give-requires-in-Ok-clause-status g c = IsRunAnswer-status _ c.in-Ok-Run.options c.run_answer.result c.run_answer.ensures.ok

run_is : (g : Over) (c : goal.After-drop-text g) → IsAnswer (texts c.args.words.now) (g.I.Source.remaining c.args.reader.now) (g.I.Source.remaining c.read_text.new.reader) (status_of c.run_answer.result) (text_of usage_line c.run_answer.result)
run_is g c =
    let named : NamesRun (texts c.args.words.now) c.in-Ok-Run.options = search rules in
    IsAnswer-run (texts c.args.words.now) _ _ c.in-Ok.text.items c.in-Ok-Run.options c.run_answer.result named c.in-Ok.ensures.ok (search rules) c.run_answer.ensures.err

pub returns-in-Ok-clause-complete : goal.returns-in-Ok-clause-complete
returns-in-Ok-clause-complete g c = λ e. HasAnswered-told _ _ _ _ _ _ (run_is g c) (c.give-in-Ok.ensures.complete e)

pub returns-in-Ok-clause-part : goal.returns-in-Ok-clause-part
returns-in-Ok-clause-part g c = λ e. BeginsAnswer-told _ _ _ _ _ (run_is g c) (c.give-in-Ok.ensures.part e)

-- ---- a text that wasn't read

pub returns-in-Err-Memory-clause-complete : goal.returns-in-Err-Memory-clause-complete
returns-in-Err-Memory-clause-complete g c = λ e. HasAnswered-told _ _ _ _ _ _ lacks_memory (c.refuse.ensures.complete e)

pub returns-in-Err-Memory-clause-part : goal.returns-in-Err-Memory-clause-part
returns-in-Err-Memory-clause-part g c = λ e. BeginsAnswer-told _ _ _ _ _ lacks_memory (c.refuse.ensures.part e)

pub returns-in-Err-Failed-clause-part : goal.returns-in-Err-Failed-clause-part
returns-in-Err-Failed-clause-part g c = λ e. BeginsAnswer-unwritten _ _ lacks_memory

-- ---- refused words

refused : (g : Over) (c : goal.After-refuse-in-Err g) → IsAnswer (texts c.args.words.now) (g.I.Source.remaining c.args.reader.now) (g.I.Source.remaining c.args.reader.now) (refusal_status c.in-Err.refusal) (refusal_line usage_line c.in-Err.refusal)
refused g c = IsAnswer-refusal (texts c.args.words.now) _ _ c.in-Err.refusal (λ e. c.in-Err.ensures.refused (ap Err e))

pub returns-in-Err-clause-complete : goal.returns-in-Err-clause-complete
returns-in-Err-clause-complete g c = λ e. HasAnswered-told _ _ _ _ _ _ (refused g c) (c.refuse-in-Err.ensures.complete e)

pub returns-in-Err-clause-part : goal.returns-in-Err-clause-part
returns-in-Err-clause-part g c = λ e. BeginsAnswer-told _ _ _ _ _ (refused g c) (c.refuse-in-Err.ensures.part e)
