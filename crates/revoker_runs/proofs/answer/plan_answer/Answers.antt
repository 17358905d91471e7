use Rattle.std.proofs.Common.{◌≡◌, List, ℕ, rules, subst, sym}
use Rattle.trace_text.specs.Fault.{line_of_fault}
use Rattle.revoker_runs.specs.Answer.{IsPlanAnswer, names_fault, tells_log}
use Rattle.revoker_runs.proofs.answer.plan_answer.Goals as goal

pub returns-in-Ok : goal.returns-in-Ok
returns-in-Ok g c = record { ok = tells_log c.in-Ok.text.items c.in-Ok.ensures.log }

pub returns : goal.returns
returns g c =
    let text : c.into_bytes.result.items ≡ line_of_fault c.in-Err-Trace.fault = search rules in
    record { ok = subst (λ (told : List ℕ). IsPlanAnswer c.args.way c.args.text.now 3 told) (sym text) (names_fault c.in-Err-Trace.fault (search rules)) }
