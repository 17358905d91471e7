use Rattle.std.proofs.Common.{rules}
use Rattle.std.proofs.lemmas.Result.{err_from_is_err_and}
use Rattle.trace_text.specs.Reading.{trace_of}
use Rattle.trace_text.proofs.WholeText.{IsFaulty-answered, IsTrace-read}
use Rattle.trace_text.proofs.text.parse.Goals as goal

pub returns-in_err-opening-clause-fault : goal.returns-in_err-opening-clause-fault
unfolding trace_of
returns-in_err-opening-clause-fault c =
    let p = err_from_is_err_and c.from_residual.result c.from_residual.ensures.1 in
    rw (p.1, p.2) (IsFaulty-answered c.args.text.now c.in_err-opening.field-0.0 (search rules))

pub returns-in_err-commands-clause-fault : goal.returns-in_err-commands-clause-fault
unfolding trace_of
returns-in_err-commands-clause-fault c =
    let p = err_from_is_err_and c.from_residual-in_err-commands.result c.from_residual-in_err-commands.ensures.1 in
    rw (p.1, p.2) (IsFaulty-answered c.args.text.now c.in_err-commands.field-0.0 (search rules))

pub returns-clause-trace : goal.returns-clause-trace
unfolding trace_of
returns-clause-trace c = IsTrace-read c.args.text.now _ (search rules)
