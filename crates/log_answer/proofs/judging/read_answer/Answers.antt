use Rattle.std.proofs.Common.{◌∙◌, sym}
use Rattle.log_text.specs.Log.{log_of, record_of}
use Rattle.log_answer.specs.Text.{line_of_fault}
use Rattle.log_answer.proofs.JudgedLaws.{Fails-told, IsLogAnswer-fault, IsLogAnswer-judged}
use Rattle.log_answer.proofs.judging.read_answer.Goals as goal

pub returns-in-Ok : goal.returns-in-Ok
returns-in-Ok g c =
    IsLogAnswer-judged c.args.text.now (record_of c.in-Ok.log) c.read_log_answer.result c.in-Ok.ensures.exact c.read_log_answer.ensures

pub returns-in-Err-2 : goal.returns-in-Err-2
returns-in-Err-2 g c =
    let fault = c.in-Err.fault in
    let reads = Fails-told fault (log_of c.args.text.now) (sym c.is_memory.ensures ∙ c.if-is_memory.false) c.in-Err.ensures.exact in
    IsLogAnswer-fault c.args.text.now fault c.line_answer.result reads (c.line_answer.ensures (line_of_fault fault) c.fault_text.ensures)
