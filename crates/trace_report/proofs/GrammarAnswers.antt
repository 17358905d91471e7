-- What is answered for a text, by the grammar.
use Rattle.std.proofs.Common.{◌≡◌, ◌≢◌, ℕ, List, subst}
use Rattle.std.specs.Prelude.{◌↔◌, Result, Ok, Err, IfOk}
use Rattle.trace_text.specs.declared.fault.TraceFault.{TraceFault}
use Rattle.trace_text.specs.declared.fault.TraceFault.TheVariants as trace_fault
use Rattle.trace_text.specs.Grammar.{IsFaulty, IsTrace}
use Rattle.trace_text.specs.Reading.{Script, trace_of}
use Rattle.trace_report.specs.declared.outcome.Outcome.{Outcome}
use Rattle.trace_report.specs.declared.outcome.RunFault.{RunFault}
use Rattle.trace_report.specs.declared.outcome.RunFault.TheVariants.{Trace}
use Rattle.trace_report.specs.Outcome.{HasOutcome, IsOutcome}

pub IsTrace-answered : ((text : List ℕ) (script : Script) → (trace_of text ≡ Ok script) ↔ IsTrace text script) → (text : List ℕ) (result : Result Outcome RunFault)
    → HasOutcome text result → IfOk result (λ outcome. (script : Script) × IsTrace text script × IsOutcome script outcome)
IsTrace-answered law text (Ok outcome) answers = (answers.0, (law text answers.0).0 answers.1, answers.2)
IsTrace-answered law text (Err fault) answers = tt

pub IsFaulty-answered : ((text : List ℕ) (fault : TraceFault) → (trace_of text ≡ Err fault) ↔ IsFaulty text fault) → (text : List ℕ) (result : Result Outcome RunFault)
    → HasOutcome text result → (fault : TraceFault) → result ≡ Err (Trace fault) → IsFaulty text fault
IsFaulty-answered law text result answers fault same =
    (law text fault).0 (subst (HasOutcome text) same answers)

pub memory-unanswered : ((text : List ℕ) (fault : TraceFault) → (trace_of text ≡ Err fault) ↔ IsFaulty text fault) → (text : List ℕ) (result : Result Outcome RunFault)
    → HasOutcome text result → result ≢ Err (Trace trace_fault.Memory)
memory-unanswered law text result answers same = IsFaulty-answered law text result answers trace_fault.Memory same
