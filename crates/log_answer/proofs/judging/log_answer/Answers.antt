use Rattle.log_answer.specs.Text.{agrees_line}
use Rattle.log_answer.proofs.JudgedLaws.{IsLogAnswer-agrees}
use Rattle.log_answer.proofs.judging.log_answer.Goals as goal

pub returns-in-Some : goal.returns-in-Some
returns-in-Some g c = record {
  ok = IsLogAnswer-agrees c.args.text.now c.in-Some.tally c.line_answer.result c.in-Some.ensures (c.line_answer.ensures (agrees_line c.in-Some.tally) c.agrees_text.ensures);
}
