use Rattle.trace_report.proofs.OneRun.{Answers-only, IsOutcome-only, Run-only, Run-some}
use Rattle.trace_report.proofs.SafeRuns.{Run-safe, SafeSteps}
use Rattle.trace_report.proofs.laws.one_run_law.Goals as goal

pub returns-clause-one : goal.returns-clause-one
returns-clause-one c = λ first commands. Run-some c.safe_reuse_law.ensures.one first commands

pub returns-clause-only : goal.returns-clause-only
returns-clause-only c = λ first commands replies others last left p q. Run-only c.safe_reuse_law.ensures.only first commands replies others last left p q

pub returns-clause-safe : goal.returns-clause-safe
returns-clause-safe c =
    let steps = c.safe_reuse_law.ensures in
    let laws : SafeSteps = record { safe = steps.safe; unused = steps.unused; revoked = steps.revoked } in
    λ base pages commands replies last run size place fits. Run-safe laws _ commands replies last run (steps.first base pages size place) fits

pub returns-clause-outcome : goal.returns-clause-outcome
returns-clause-outcome c = λ script a b p q. IsOutcome-only c.safe_reuse_law.ensures.only script a b p q

pub returns-clause-answer : goal.returns-clause-answer
returns-clause-answer c = λ text a b p q. Answers-only c.safe_reuse_law.ensures.only text a b p q
