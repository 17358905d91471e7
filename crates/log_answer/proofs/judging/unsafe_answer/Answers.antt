use Rattle.log_text.specs.Log.{record_of}
use Rattle.log_answer.specs.Answer.{given_from, lacks}
use Rattle.log_answer.specs.Text.{unsafe_line}
use Rattle.log_answer.proofs.JudgedLaws.{IsJudged-line}
use Rattle.log_answer.proofs.judging.unsafe_answer.Goals as goal

pub returns : goal.returns
returns c =
    let log = record_of c.args.log.now in
    let told = unsafe_line c.args.line (given_from log.givens c.args.lack) c.args.lack in
    IsJudged-line log 5 told c.line_answer.result (lacks c.args.line c.args.lack c.requires)
    (c.line_answer.ensures told (rw (c.lacking_origin-from.ensures, c.deref.ensures.value) at c.unsafe_text.ensures))
