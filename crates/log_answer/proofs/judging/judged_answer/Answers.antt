use Rattle.log_text.specs.Log.{record_of}
use Rattle.log_answer.specs.Text.{agrees_line}
use Rattle.log_answer.proofs.JudgedLaws.{IsJudged-agrees, IsJudged-line}
use Rattle.log_answer.proofs.judging.judged_answer.Goals as goal

pub returns-in-Ok-Agrees : goal.returns-in-Ok-Agrees
returns-in-Ok-Agrees g c =
    let log = record_of c.args.log.now in
    let tally = c.in-Ok-Agrees.tally in
    let is = IsJudged-agrees log c.args.machine.now.state c.judge.new.machine.state tally c.requires.first c.requires.safe (rw (c.in-Ok-Agrees.field-0-is, c.deref.ensures.value) at c.in-Ok-Agrees.ensures.verdict) in
    IsJudged-line log 0 (agrees_line tally) c.line_answer.result is (c.line_answer.ensures (agrees_line tally) c.agrees_text.ensures)
