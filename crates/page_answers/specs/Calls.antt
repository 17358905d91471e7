-- What the exports write, and the codes that they answer.
use Rattle.std.specs.Prelude.{◌≡◌, ◌==◌, ◌<◌, ◌++◌, ◌+◌, ◌*◌, ◌^◌, ℕ, Bool, List, [], Option, Some, None, Ok, Err, drop, length, if◌then◌else◌}
use Rattle.heap_reply.specs.WordLine.{word_line}
use Rattle.log_answer.specs.Answer.{IsLogAnswer}
use Rattle.trace_report.specs.Image.{image_of}
use Rattle.trace_report.specs.Outcome.{HasOutcome}
use Rattle.trace_report.specs.declared.outcome.Outcome.{Outcome}
use Rattle.revoker_runs.specs.Answer.{IsPlanAnswer}
use Rattle.revoker_runs.specs.declared.answer.Way.{Way}
use Rattle.revoker_runs.specs.declared.answer.Way.TheVariants.{ByHand, Cornucopia, Reloaded}
use Rattle.trace_text.specs.Fault.{line_of_fault}
use Rattle.trace_text.specs.Reading.{Script, trace_of}
use Rattle.trace_text.specs.declared.fault.TraceFault.{TraceFault}

abbrev pub done : ℕ
done = 0

abbrev pub no_memory : ℕ
no_memory = 1

abbrev pub short : ℕ
short = 2

abbrev pub none : ℕ
none = 3

-- All of a text was written where a room begins, in so many bytes.
pub record IsWritten (IsText : List ℕ → Type 0) (before after : List ℕ) (count : ℕ) : Type 0 where
  pub text : List ℕ
  pub text_is : IsText text
  pub count_is : count ≡ length text
  pub after_is : after ≡ text ++ drop (length text) before

-- A text has so many bytes, which are more than a room has.
pub record IsTooLong (IsText : List ℕ → Type 0) (room count : ℕ) : Type 0 where
  pub text : List ℕ
  pub text_is : IsText text
  pub count_is : count ≡ length text
  pub longer : room < count

-- A text is no trace.
pub record IsFaulty (text : List ℕ) : Type 0 where
  pub fault : TraceFault
  pub fault_is : trace_of text ≡ Err fault

-- A text is a trace.
pub record IsTrace (text : List ℕ) : Type 0 where
  pub script : Script
  pub script_is : trace_of text ≡ Ok script

-- A text is no trace, and the line names its fault.
pub record IsFaultOf (text line : List ℕ) : Type 0 where
  pub fault : TraceFault
  pub fault_is : trace_of text ≡ Err fault
  pub line_is : line ≡ line_of_fault fault

-- The image, where it is asked for.
abbrev pub image_shown : Bool → List ℕ → List ℕ
image_shown asked image = if asked then image else []

-- The bytes are the report of what a run of the text gives, and the image that it leaves where that is asked for.
pub record IsRunOf (text : List ℕ) (asked : Bool) (bytes : List ℕ) : Type 0 where
  pub outcome : Outcome
  pub answers : HasOutcome text (Ok outcome)
  pub bytes_are : bytes ≡ outcome.report.items ++ image_shown asked (image_of outcome.memory.base outcome.memory.granules)

-- The text is said of a log, with some status.
abbrev pub IsSaidOf : List ℕ → List ℕ → Type 0
IsSaidOf log text = (status : ℕ) × IsLogAnswer log status text

-- Who does the steps of a plan's revoker, by number.
abbrev pub way_of : ℕ → Option Way
way_of way = if way == 0 then Some ByHand else if way == 1 then Some Cornucopia else if way == 2 then Some Reloaded else None

-- The text is answered for a plan with this status, where this number says who does the revoker's steps.
pub record IsPlanned (plan : List ℕ) (number status : ℕ) (text : List ℕ) : Type 0 where
  pub way : Way
  pub way_is : way_of number ≡ Some way
  pub answer : IsPlanAnswer way plan status text

-- And with some status.
abbrev pub IsPlannedOf : List ℕ → ℕ → List ℕ → Type 0
IsPlannedOf plan number text = (status : ℕ) × IsPlanned plan number status text

-- The text is the line of the word of these halves.
abbrev pub IsLineOf : ℕ → ℕ → List ℕ → Type 0
IsLineOf address metadata text = text ≡ word_line (record { bits = metadata * 2 ^ 64 + address })
