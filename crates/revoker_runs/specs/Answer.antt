-- The log of a plan, or its fault.
use Rattle.std.specs.Prelude.{◌≡◌, ◌-◌, ◌++◌, ℕ, Bool, false, List, [], ◌∷◌, suc, zero, Option, Some, Result, Ok, Err, codes, if◌then◌else◌, length, nat_lt, replicate}
use Rattle.trace_text.specs.declared.trace.Command.{Command}
use Rattle.trace_text.specs.declared.fault.TraceFault.{TraceFault}
use Rattle.trace_text.specs.declared.fault.TraceFault.TheVariants.{TooLong}
use Rattle.trace_text.specs.Fault.{line_of_fault}
use Rattle.trace_text.specs.Lines.{lines_of, longest_text}
use Rattle.trace_text.specs.Reading.{Opening, opening_from}
use Rattle.trace_text.specs.declared.text.Opening.{Opening as TheOpening}
use Rattle.machine_steps.specs.State.{first_state}
use Rattle.heap_machine.specs.Storage.{MachineState}
use Rattle.revoker_steps.specs.declared.command.RevokerCommand.{RevokerCommand}
use Rattle.revokers.specs.Reloaded.{ReloadedState}
use Rattle.revoker_runs.specs.declared.answer.Way.{Way}
use Rattle.revoker_runs.specs.declared.answer.Way.TheVariants.{ByHand, Cornucopia, Reloaded}
use Rattle.revoker_runs.specs.Plan.{Writes, fault_in}
use Rattle.revoker_runs.specs.Ways.{BarredDoes, DoesJust, MarkedDoes, StepsJust, StepsLooking, all_steps, no_step, own_step, page_steps}

-- What was read up to the heap line, without where it lies in memory.
abbrev pub opening_of : TheOpening → Opening
opening_of o = record { base = o.base; pages = o.pages; next = o.next; rest = lines_of o.rest.now }

-- A line as it was read.
abbrev pub line_text : List ℕ → List ℕ
line_text line = line ++ codes "\n"

-- So many lines of these, as far as there are any.
abbrev pub first_lines : ℕ → List (List ℕ) → List ℕ
first_lines zero lines = []
first_lines (suc n) [] = []
first_lines (suc n) (line ∷ lines) = line_text line ++ first_lines n lines

-- The lines before the one with this number.
abbrev pub head_text : List ℕ → ℕ → List ℕ
head_text text next = first_lines (next - 1) (lines_of text)

-- A machine that has not done anything yet.
pub record IsFirst (base pages : ℕ) (m : MachineState) : Type 0 where
  pub state : m.state ≡ first_state base pages
  pub dirty : m.dirty ≡ replicate pages false

-- The lines after the heap line come to this text, done by a bare machine.
pub record WritesByHand (o : Opening) (told : List ℕ) : Type 0 where
  pub first : MachineState
  pub last : MachineState
  pub is_first : IsFirst o.base o.pages first
  pub writes : Writes no_step all_steps DoesJust StepsJust o.next first o.rest told last

-- By a revoker without a barrier.
pub record WritesMarked (o : Opening) (told : List ℕ) : Type 0 where
  pub first : MachineState
  pub last : MachineState
  pub is_first : IsFirst o.base o.pages first
  pub writes : Writes own_step page_steps MarkedDoes StepsJust o.next first o.rest told last

-- By one with a barrier.
pub record WritesBarred (o : Opening) (told : List ℕ) : Type 0 where
  pub first : ReloadedState
  pub last : ReloadedState
  pub is_first : IsFirst o.base o.pages first.machine
  pub unstarted : first.is_started ≡ false
  pub writes : Writes own_step page_steps BarredDoes StepsLooking o.next first o.rest told last

abbrev pub WritesBy : Way → Opening → List ℕ → Type 0
WritesBy ByHand o told = WritesByHand o told
WritesBy Cornucopia o told = WritesMarked o told
WritesBy Reloaded o told = WritesBarred o told

-- The log of the plan that a text is: its lines up to the heap line, and what the others come to.
pub record IsLogOf (text : List ℕ) (way : Way) (log : List ℕ) : Type 0 where
  pub opening : Opening
  pub plan : opening_from 1 (lines_of text) ≡ Ok opening
  pub told : List ℕ
  pub writes : WritesBy way opening told
  pub log_is : log ≡ head_text text opening.next ++ told

-- The commands of the program that are the revoker's steps, and what a line may tell it.
abbrev pub own_by : Way → Command → Option RevokerCommand
own_by ByHand = no_step
own_by Cornucopia = own_step
own_by Reloaded = own_step

abbrev pub takes_by : Way → RevokerCommand → Bool
takes_by ByHand = all_steps
takes_by Cornucopia = page_steps
takes_by Reloaded = page_steps

-- The first fault of a text that is no plan.
abbrev pub fault_after : Way → Result Opening TraceFault → Option TraceFault
fault_after way (Err fault) = Some fault
fault_after way (Ok o) = fault_in (own_by way) (takes_by way) o.next o.rest

abbrev pub plan_fault : Way → List ℕ → Option TraceFault
plan_fault way text = if nat_lt longest_text (length text) then Some TooLong else fault_after way (opening_from 1 (lines_of text))

-- The text that goes with a status: the log of the plan that a text is, or the line of the fault that it has.
pub data IsPlanAnswer (way : Way) (text : List ℕ) : ℕ → List ℕ → Type 0 where
  tells_log : (log : List ℕ) → IsLogOf text way log → IsPlanAnswer way text 0 log
  names_fault : (fault : TraceFault) → plan_fault way text ≡ Some fault → IsPlanAnswer way text 3 (line_of_fault fault)
