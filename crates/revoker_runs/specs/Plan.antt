-- How a plan is read and run, for any revoker: by the step of its own that a command is, what a line may tell it, and what it does.
use Rattle.std.specs.Prelude.{◌≡◌, ◌+◌, ◌++◌, ℕ, Bool, List, [], ◌∷◌, Option, Some, None, Result, Ok, Err, codes, if◌then◌else◌}
use Rattle.trace_text.specs.declared.trace.Command.{Command}
use Rattle.trace_text.specs.declared.fault.LineFault.{LineFault}
use Rattle.trace_text.specs.declared.fault.TraceFault.{TraceFault}
use Rattle.trace_text.specs.declared.fault.TraceFault.TheVariants.{BadCommand}
use Rattle.trace_text.specs.Lines.{is_passed_over, words_of}
use Rattle.trace_text.specs.Reading.{fault_at}
use Rattle.heap_reply.specs.declared.reply.Reply.{Reply}
use Rattle.log_text.specs.declared.event.Asked.{Asked}
use Rattle.log_text.specs.declared.event.Asked.TheVariants as asked
use Rattle.log_text.specs.Log.{asked_of}
use Rattle.revoker_steps.specs.declared.command.RevokerCommand.{RevokerCommand}
use Rattle.revokers.specs.declared.acts.Act.{Act}
use Rattle.revoker_runs.specs.Told.{act_lines, answered_line}

-- ---- lines

-- A command of the program, or the step of the revoker that it is.
abbrev pub asked_by : Command → Option RevokerCommand → Asked
asked_by c None = asked.Command c
asked_by c (Some step) = asked.Revoker step

-- What a line asks whose words ask this in a log.
abbrev pub planned : (Command → Option RevokerCommand) → (RevokerCommand → Bool) → ℕ → Result Asked LineFault → Result (Option Asked) TraceFault
planned own takes number (Err fault) = Err (fault_at number fault)
planned own takes number (Ok (asked.Granule address)) = Err (BadCommand number)
planned own takes number (Ok (asked.Command c)) = Ok (Some (asked_by c (own c)))
planned own takes number (Ok (asked.Revoker step)) = if takes step then Ok (Some (asked.Revoker step)) else Err (BadCommand number)

-- What the line with this number and these words asks: nothing, a command, or a step of the revoker.
unfoldable pub plan_at : (Command → Option RevokerCommand) → (RevokerCommand → Bool) → ℕ → List (List ℕ) → Result (Option Asked) TraceFault
plan_at own takes number [] = Ok None
plan_at own takes number (name ∷ words) = if is_passed_over (name ∷ words) then Ok None else planned own takes number (asked_of name words)

-- The first fault of these lines, numbered from here on.
abbrev pub fault_or : Result (Option Asked) TraceFault → Option TraceFault → Option TraceFault
fault_or (Ok read) later = later
fault_or (Err fault) later = Some fault

unfoldable pub fault_in : (Command → Option RevokerCommand) → (RevokerCommand → Bool) → ℕ → List (List ℕ) → Option TraceFault
fault_in own takes number [] = None
fault_in own takes number (line ∷ lines) = fault_or (plan_at own takes number (words_of line)) (fault_in own takes (number + 1) lines)

-- ---- runs

-- A step of the revoker: what it did is told, each act on a line.
pub record WritesActs {R : Type 0} (does : R → RevokerCommand → List Act → R → Type 0) (old : R) (step : RevokerCommand) (told : List ℕ) (new : R) : Type 0 where
  pub acts : List Act
  pub does_so : does old step acts new
  pub told_is : told ≡ act_lines acts

-- A command of the program: what the revoker did before it is told, and then the line with its answer.
pub record WritesAnswer {R : Type 0} (steps : R → Command → List Act → Reply → R → Type 0) (old : R) (line : List ℕ) (c : Command) (told : List ℕ) (new : R) : Type 0 where
  pub acts : List Act
  pub answer : Reply
  pub steps_so : steps old c acts answer new
  pub told_is : told ≡ act_lines acts ++ answered_line line answer

-- What a line is read as, and comes to.
abbrev pub WritesRead : {R : Type 0} → (R → RevokerCommand → List Act → R → Type 0) → (R → Command → List Act → Reply → R → Type 0) → R → List ℕ → Result (Option Asked) TraceFault → List ℕ → R → Type 0
WritesRead does steps old line (Err fault) told new = ⊥
WritesRead does steps old line (Ok None) told new = (told ≡ line ++ codes "\n") × (new ≡ old)
WritesRead does steps old line (Ok (Some (asked.Granule address))) told new = ⊥
WritesRead does steps old line (Ok (Some (asked.Command c))) told new = WritesAnswer steps old line c told new
WritesRead does steps old line (Ok (Some (asked.Revoker step))) told new = WritesActs does old step told new

-- These lines, numbered from here on, come to this text, and leave the revoker so.
abbrev pub Writes : {R : Type 0} → (Command → Option RevokerCommand) → (RevokerCommand → Bool) → (R → RevokerCommand → List Act → R → Type 0) → (R → Command → List Act → Reply → R → Type 0)
    → ℕ → R → List (List ℕ) → List ℕ → R → Type 0
Writes own takes does steps number old [] told new = (told ≡ []) × (new ≡ old)
Writes {R} own takes does steps number old (line ∷ lines) told new =
    (mid : R) × (first : List ℕ) × (rest : List ℕ) × WritesRead does steps old line (plan_at own takes number (words_of line)) first mid
    × Writes own takes does steps (number + 1) mid lines rest new × (told ≡ first ++ rest)
