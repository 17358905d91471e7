-- What a run of a text gives. The definition knows no workers.
use Rattle.std.specs.Prelude.{◌≡◌, List, Result, Ok, Err, map}
use Rattle.heap_reply.specs.declared.reply.Reply.{Reply}
use Rattle.trace_report.specs.declared.outcome.Outcome.{Outcome as TheOutcome}
use Rattle.trace_report.specs.declared.outcome.RunFault.{RunFault}
use Rattle.trace_report.specs.declared.outcome.RunFault.TheVariants.{Memory, Trace}
use Rattle.std.specs.Prelude.{ℕ}
use Rattle.trace_text.specs.Reading.{Script, trace_of}
use Rattle.trace_report.specs.Report.{report_text}
use Rattle.trace_report.specs.Run.{IsSafeRun, Run}
use Rattle.machine_steps.specs.State.{State, first_state}

-- A run of these commands from the first state, safe throughout, leaves this report, these registers and
-- this memory.
pub record IsOutcome (script : Script) (o : TheOutcome) : Type 0 where
  pub replies : List Reply
  pub last : State
  pub run : Run (first_state script.base script.pages) (map (λ c. c.1) script.commands) replies last
  pub safe : IsSafeRun (first_state script.base script.pages) (map (λ c. c.1) script.commands) replies last run
  pub report : o.report.items ≡ report_text script.commands replies last
  pub registers : o.registers ≡ last.registers
  pub base : o.memory.base ≡ last.heap.base
  pub granules : o.memory.granules ≡ last.granules

-- The answer for a text: the outcome of the trace that it is, or its fault, or memory ran out.
abbrev pub HasOutcome : List ℕ → Result TheOutcome RunFault → Type 0
HasOutcome text (Ok o) = (script : Script) × (trace_of text ≡ Ok script) × IsOutcome script o
HasOutcome text (Err Memory) = Unit {0}
HasOutcome text (Err (Trace fault)) = trace_of text ≡ Err fault
