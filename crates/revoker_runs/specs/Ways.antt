-- What each revoker does where it is told to, and what before a command of the program.
use Rattle.std.specs.Prelude.{◌≡◌, ℕ, Bool, false, true, List, [], ◌∷◌, Option, Some, None, length, replicate}
use Rattle.tag_memory.specs.Cells.{is_dirty_at}
use Rattle.trace_text.specs.declared.trace.Command.{Command}
use Rattle.trace_text.specs.declared.trace.Command.TheVariants.{Malloc, Free, Copy, SetAddr, Narrow, AndPerm, StoreCap, LoadCap, Write, Show, Sweep, Begin, End}
use Rattle.heap_reply.specs.declared.reply.Reply.{Reply}
use Rattle.log_text.specs.declared.event.Asked.{Asked}
use Rattle.log_text.specs.declared.event.Asked.TheVariants as asked
use Rattle.machine_steps.specs.Step.{Step}
use Rattle.heap_machine.specs.Storage.{MachineState}
use Rattle.revoker_steps.specs.declared.command.RevokerCommand.{RevokerCommand}
use Rattle.revoker_steps.specs.declared.command.RevokerCommand.TheVariants.{Paint, Release, UntagGranule, UntagRegister, Visit}
use Rattle.revoker_steps.specs.declared.command.RevokerReply.{RevokerReply}
use Rattle.revoker_steps.specs.declared.command.RevokerReply.TheVariants.{Cleared}
use Rattle.revoker_steps.specs.Revoker.{RevokerStep}
use Rattle.revokers.specs.declared.acts.Act.{Act}
use Rattle.revokers.specs.declared.ending.Finished.{Finished}
use Rattle.revokers.specs.declared.reloaded.Barrier.{Barrier}
use Rattle.revokers.specs.Ending.{Finishes}
use Rattle.revokers.specs.Reloaded.{FinishesSeen, ReloadedState, Starts, StepsBarred, seen_by}

-- ---- steps as they are told

-- It does this, and no more.
pub record DoesJust (old : MachineState) (c : RevokerCommand) (acts : List Act) (new : MachineState) : Type 0 where
  pub reply : RevokerReply
  pub step : RevokerStep old.state c reply new.state
  pub told : acts ≡ record { command = c; reply = reply } ∷ []

-- A command of the program, with nothing before it.
pub record StepsJust (old : MachineState) (c : Command) (acts : List Act) (answer : Reply) (new : MachineState) : Type 0 where
  pub step : Step old.state c answer new.state
  pub told : acts ≡ []

-- ---- a revoker that looks again at what was stored to

-- To release in an open epoch is to end it.
abbrev pub MarkedReleases : Bool → MachineState → List Act → MachineState → Type 0
MarkedReleases true old acts new = (finished : Finished) × Finishes (is_dirty_at old.dirty) old.state [] finished new.state acts
MarkedReleases false old acts new = DoesJust old Release acts new

abbrev pub MarkedDoes : MachineState → RevokerCommand → List Act → MachineState → Type 0
MarkedDoes old Paint acts new = DoesJust old Paint acts new
MarkedDoes old (Visit page) acts new = DoesJust old (Visit page) acts new
MarkedDoes old (UntagGranule address) acts new = DoesJust old (UntagGranule address) acts new
MarkedDoes old (UntagRegister r) acts new = DoesJust old (UntagRegister r) acts new
MarkedDoes old Release acts new = MarkedReleases old.state.heap.is_open old acts new

-- ---- a revoker with a barrier at loads

-- It does this, and no more, and has seen the same pages.
pub record DoesUnseen (old : ReloadedState) (c : RevokerCommand) (acts : List Act) (new : ReloadedState) : Type 0 where
  pub does : DoesJust old.machine c acts new.machine
  pub seen : new.seen ≡ old.seen
  pub started : new.is_started ≡ old.is_started

-- It visits a page, which is seen then.
pub record DoesSeeing (old : ReloadedState) (page : ℕ) (acts : List Act) (new : ReloadedState) : Type 0 where
  pub reply : RevokerReply
  pub step : RevokerStep old.machine.state (Visit page) reply new.machine.state
  pub told : acts ≡ record { command = Visit page; reply = reply } ∷ []
  pub seen : new.seen ≡ seen_by reply page old.seen
  pub started : new.is_started ≡ old.is_started

-- Its epoch starts, with no page seen.
pub record DoesStart (old : ReloadedState) (acts : List Act) (new : ReloadedState) : Type 0 where
  pub cleared : ℕ
  pub starts : Starts old.machine.state [] cleared new.machine.state acts
  pub seen : new.seen ≡ replicate (length old.seen) false
  pub started : new.is_started ≡ true

-- And ends.
pub record DoesFinish (old : ReloadedState) (acts : List Act) (new : ReloadedState) : Type 0 where
  pub finished : Finished
  pub finishes : FinishesSeen old.seen old.machine.state [] finished new.machine.state acts
  pub started : new.is_started ≡ false

-- To paint where no epoch is open is to start one.
abbrev pub BarredPaints : Bool → ReloadedState → List Act → ReloadedState → Type 0
BarredPaints true old acts new = DoesUnseen old Paint acts new
BarredPaints false old acts new = DoesStart old acts new

-- To release in an epoch of its own is to end it.
abbrev pub BarredReleases : Bool → ReloadedState → List Act → ReloadedState → Type 0
BarredReleases true old acts new = DoesFinish old acts new
BarredReleases false old acts new = DoesUnseen old Release acts new

abbrev pub BarredDoes : ReloadedState → RevokerCommand → List Act → ReloadedState → Type 0
BarredDoes old Paint acts new = BarredPaints old.machine.state.heap.is_open old acts new
BarredDoes old (Visit page) acts new = DoesSeeing old page acts new
BarredDoes old (UntagGranule address) acts new = DoesUnseen old (UntagGranule address) acts new
BarredDoes old (UntagRegister r) acts new = DoesUnseen old (UntagRegister r) acts new
BarredDoes old Release acts new = BarredReleases old.is_started old acts new

-- What the barrier did before a load.
abbrev pub barrier_acts : Option Barrier → List Act
barrier_acts None = []
barrier_acts (Some barrier) = record { command = Visit barrier.page; reply = Cleared barrier.cleared } ∷ []

pub record StepsLooking (old : ReloadedState) (c : Command) (acts : List Act) (answer : Reply) (new : ReloadedState) : Type 0 where
  pub barrier : Option Barrier
  pub steps : StepsBarred old c (record { barrier = barrier; reply = answer }) new
  pub told : acts ≡ barrier_acts barrier

-- ---- commands of the program that are a revoker's

-- A revoker does the passes of an epoch itself.
abbrev pub own_step : Command → Option RevokerCommand
own_step (Malloc rd size) = None
own_step (Free rs) = None
own_step (Copy rd rs) = None
own_step (SetAddr rd rs address) = None
own_step (Narrow rd rs n) = None
own_step (AndPerm rd rs mask) = None
own_step (StoreCap ra rs) = None
own_step (LoadCap rd ra) = None
own_step (Write ra bytes) = None
own_step (Show rs) = None
own_step Sweep = None
own_step Begin = Some Paint
own_step End = Some Release

-- Or doesn't.
abbrev pub no_step : Command → Option RevokerCommand
no_step c = None

-- ---- what a line may tell it

abbrev pub all_steps : RevokerCommand → Bool
all_steps c = true

-- A revoker that looks at whole pages has no use for one granule.
abbrev pub page_steps : RevokerCommand → Bool
page_steps Paint = true
page_steps (Visit page) = true
page_steps (UntagGranule address) = false
page_steps (UntagRegister r) = false
page_steps Release = true

-- What was asked is a command, or a step that it may be told to do.
abbrev pub MayDo : (RevokerCommand → Bool) → Asked → Type 0
MayDo takes (asked.Command c) = Unit {0}
MayDo takes (asked.Revoker step) = takes step ≡ true
MayDo takes (asked.Granule address) = ⊥
