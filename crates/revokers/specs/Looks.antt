-- A page is visited where it has to be.
use Rattle.std.specs.Prelude.{◌≡◌, ◌++◌, ℕ, Bool, false, true, List, [], ◌∷◌, slice_set}
use Rattle.heap_machine.specs.Storage.{MachineState}
use Rattle.revoker_steps.specs.declared.command.RevokerCommand.TheVariants.{Visit}
use Rattle.revoker_steps.specs.declared.command.RevokerReply.{RevokerReply}
use Rattle.revoker_steps.specs.Events.{cleared_by}
use Rattle.revoker_steps.specs.Revoker.{RevokerStep}
use Rattle.revokers.specs.declared.acts.Act.{Act}

-- The page is visited, which takes so many tags and is told, and is clean then.
pub record IsVisited (page : ℕ) (old : MachineState) (before : List Act) (cleared : ℕ) (new : MachineState) (after : List Act) : Type 0 where
  pub reply : RevokerReply
  pub step : RevokerStep old.state (Visit page) reply new.state
  pub count : cleared ≡ cleared_by reply
  pub dirty : new.dirty ≡ slice_set old.dirty page false
  pub is_open : new.state.heap.is_open ≡ true
  pub told : after ≡ before ++ record { command = Visit page; reply = reply } ∷ []

-- Where the test passes the page is visited; else it is passed over.
abbrev pub Looks : Bool → ℕ → MachineState → List Act → ℕ → MachineState → List Act → Type 0
Looks true page old before cleared new after = IsVisited page old before cleared new after
Looks false page old before cleared new after = (cleared ≡ 0) × (new ≡ old) × (after ≡ before)
