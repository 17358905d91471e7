use Rattle.std.proofs.Common.{◌≡◌, Err, IfOk, subst}
use Rattle.trace_report.specs.Outcome.{HasOutcome}
use Rattle.trace_text.specs.Fault.{line_of_fault}
use Rattle.heap_command.proofs.RunLaws.{IsRunAnswer-fault, IsRunAnswer-report}
use Rattle.heap_command.proofs.runs.run_answer.Goals as goal

pub returns-in-Ok-clause-ok : goal.returns-in-Ok-clause-ok
returns-in-Ok-clause-ok g c =
    let (script, reads, is) = c.in-Ok.ensures.answer in
    IsRunAnswer-report c.args.text.now c.args.options script c.in-Ok.outcome c.outcome_answer.result reads is c.outcome_answer.ensures.ok

pub returns-in-Err-Trace-clause-ok : goal.returns-in-Err-Trace-clause-ok
returns-in-Err-Trace-clause-ok g c =
    let answers = subst (λ e. HasOutcome c.args.text.now (Err e)) c.in-Err-Trace.field-0-is c.in-Err-Trace.ensures.answer in
    let told = subst (λ f. IfOk c.fault_answer.result (λ answer. (answer.status ≡ 3) × (answer.text.items ≡ line_of_fault f))) c.in-Err-Trace.fault-is c.fault_answer.ensures.ok in
    IsRunAnswer-fault c.args.text.now c.args.options c.in-Err-Trace.fault c.fault_answer.result answers told
