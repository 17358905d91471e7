-- The report of a text alone.
use Rattle.std.specs.Prelude.{◌≡◌, ℕ, List, Ok}
use Rattle.trace_report.specs.Outcome.{HasOutcome}
use Rattle.trace_report.specs.declared.outcome.Outcome.{Outcome}

-- The bytes are the report of what a run of the text gives.
pub record IsReportOf (text report : List ℕ) : Type 0 where
  pub outcome : Outcome
  pub answers : HasOutcome text (Ok outcome)
  pub report_is : report ≡ outcome.report.items
