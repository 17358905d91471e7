-- A revoker with a barrier at loads (Filardo et al. 2024, Cornucopia Reloaded): a machine, and which of its pages were seen
-- since the epoch of this revoker started, if one is open.
use Rattle.std.specs.Prelude.{◌≡◌, ◌<◌, ◌&&◌, ◌++◌, ℕ, Bool, true, false, List, [], ◌∷◌, Option, Some, None, if◌then◌else◌, length, nat_lt, not, replicate, slice_set}
use Rattle.tag_memory.specs.Cells.{register_count}
use Rattle.trace_text.specs.declared.trace.Command.{Command}
use Rattle.trace_text.specs.declared.trace.Command.TheVariants.{Malloc, Free, Copy, SetAddr, Narrow, AndPerm, StoreCap, LoadCap, Write, Show, Sweep, Begin, End}
use Rattle.heap_reply.specs.declared.reply.Reply.{Reply}
use Rattle.heap_reply.specs.declared.reply.Trap.{Trap}
use Rattle.machine_steps.specs.Dirty.{HasPages, dirty_after}
use Rattle.machine_steps.specs.State.{State}
use Rattle.machine_steps.specs.Step.{Step, checks, first_failed}
use Rattle.heap_machine.specs.Storage.{MachineState}
use Rattle.revoker_steps.specs.Barred.{IsBarred, is_seen, page_at}
use Rattle.revoker_steps.specs.declared.command.RevokerCommand.TheVariants.{Paint, Release, Visit}
use Rattle.revoker_steps.specs.declared.command.RevokerReply.{RevokerReply}
use Rattle.revoker_steps.specs.declared.command.RevokerReply.TheVariants.{Cleared, Done, Released}
use Rattle.revoker_steps.specs.declared.command.RevokerReply.TheVariants as reply
use Rattle.revoker_steps.specs.Events.{IsAmong, Runs, cleared_in, register_untags, visits}
use Rattle.revoker_steps.specs.Events.Event.{Revoked}
use Rattle.revoker_steps.specs.Revoker.{RevokerStep}
use Rattle.revokers.specs.Acts.{untag_acts, visit_acts}
use Rattle.revokers.specs.declared.acts.Act.{Act}
use Rattle.revokers.specs.declared.ending.Finished.{Finished}
use Rattle.revokers.specs.declared.reloaded.Barrier.{Barrier}
use Rattle.revokers.specs.declared.reloaded.Stepped.{Stepped}

-- What a caller sees of it.
pub record ReloadedState : Type 0 where
  pub machine : MachineState
  pub seen : List Bool
  pub is_started : Bool

-- The epoch of this revoker: it is open, no register is tagged with its base in a painted block, and no granule of a page
-- that was seen is.
pub record IsEpoch (s : State) (seen : List Bool) : Type 0 where
  pub is_open : s.heap.is_open ≡ true
  pub barred : IsBarred s seen

-- What holds of every such revoker: it has a mark for each page, and its epoch, once it started, is one.
pub record IsReloaded (s : State) (seen : List Bool) (is_started : Bool) : Type 0 where
  pub pages : HasPages s seen
  pub epoch : is_started ≡ true → IsEpoch s seen

-- ---- the start

-- An epoch starts: blocks are painted, and each register loses its tag where its word's base lies in one, with no command
-- between. So many tags are taken, and all of it is told.
pub record Starts (old : State) (before : List Act) (cleared : ℕ) (new : State) (after : List Act) : Type 0 where
  pub registers : List (ℕ × RevokerReply)
  pub steps : Runs Step old (Revoked Paint Done ∷ register_untags registers) new
  pub all : (r : ℕ) → r < register_count → IsAmong registers r
  pub count : cleared ≡ cleared_in registers
  pub told : after ≡ before ++ record { command = Paint; reply = Done } ∷ untag_acts registers

-- ---- the barrier

-- The page that is to be visited before a load from it: one that wasn't seen, where the load isn't trapped.
abbrev pub unseen_page : Option Trap → List Bool → ℕ → Option ℕ
unseen_page (Some trap) seen page = None
unseen_page None seen page = if is_seen seen page then None else Some page

-- The page that is to be visited before a command. Only a load waits for one.
abbrev pub page_before : State → List Bool → Command → Option ℕ
page_before s seen (LoadCap rd ra) = unseen_page (first_failed (checks s (LoadCap rd ra))) seen (page_at s ra)
page_before s seen (Malloc rd size) = None
page_before s seen (Free rs) = None
page_before s seen (Copy rd rs) = None
page_before s seen (SetAddr rd rs address) = None
page_before s seen (Narrow rd rs n) = None
page_before s seen (AndPerm rd rs mask) = None
page_before s seen (StoreCap ra rs) = None
page_before s seen (Write ra bytes) = None
page_before s seen (Show rs) = None
page_before s seen Sweep = None
page_before s seen Begin = None
page_before s seen End = None

-- The same of a revoker: there is one in its own epoch alone.
abbrev pub waits_for : ReloadedState → Command → Option ℕ
waits_for r command = if r.is_started then page_before r.machine.state r.seen command else None

-- The page is visited, which takes so many tags, and is seen then, and clean.
pub record IsLooked (page : ℕ) (old : ReloadedState) (cleared : ℕ) (new : ReloadedState) : Type 0 where
  pub step : RevokerStep old.machine.state (Visit page) (Cleared cleared) new.machine.state
  pub seen : new.seen ≡ slice_set old.seen page true
  pub started : new.is_started ≡ old.is_started
  pub cutting : new.machine.cutting ≡ old.machine.cutting
  pub dirty : new.machine.dirty ≡ slice_set old.machine.dirty page false

-- What the barrier does before a command, and tells.
abbrev pub LooksBefore : ReloadedState → Command → Option Barrier → ReloadedState → Type 0
LooksBefore old command None new = (waits_for old command ≡ None) × (new ≡ old)
LooksBefore old command (Some barrier) new = (waits_for old command ≡ Some barrier.page) × IsLooked barrier.page old barrier.cleared new

-- The command is done, and the pages that were seen stay so, until the epoch is over.
pub record IsDone (old : ReloadedState) (command : Command) (answer : Reply) (new : ReloadedState) : Type 0 where
  pub step : Step old.machine.state command answer new.machine.state
  pub dirty : new.machine.dirty ≡ dirty_after old.machine.state command old.machine.dirty
  pub cutting : new.machine.cutting ≡ old.machine.cutting
  pub seen : new.seen ≡ old.seen
  pub started : new.is_started ≡ (old.is_started && new.machine.state.heap.is_open)

-- A command is done, after what the barrier does before it.
pub record StepsBarred (old : ReloadedState) (command : Command) (stepped : Stepped) (new : ReloadedState) : Type 0 where
  pub mid : ReloadedState
  pub looks : LooksBefore old command stepped.barrier mid
  pub done : IsDone mid command stepped.reply new

-- ---- visits, and the end

-- The pages that were seen after a visit that was answered so.
abbrev pub seen_by : RevokerReply → ℕ → List Bool → List Bool
seen_by (Cleared cleared) page seen = slice_set seen page true
seen_by Done page seen = seen
seen_by (Released bytes) page seen = seen
seen_by (reply.Trap trap) page seen = seen

-- The page is one of the heap, and wasn't seen.
abbrev pub is_unseen : List Bool → ℕ → Bool
is_unseen seen page = nat_lt page (length seen) && not (is_seen seen page)

-- Such a revoker ends its epoch: the pages that weren't seen are visited, and no others, and then the painted blocks are free; all
-- of it is told.
pub record FinishesSeen (seen : List Bool) (old : State) (before : List Act) (finished : Finished) (new : State) (after : List Act) : Type 0 where
  pub pages : List (ℕ × RevokerReply)
  pub steps : Runs Step old (visits pages ++ Revoked Release (Released finished.bytes) ∷ []) new
  pub all_pages : (page : ℕ) → is_unseen seen page ≡ true → IsAmong pages page
  pub only_pages : (page : ℕ) → IsAmong pages page → is_unseen seen page ≡ true
  pub cleared : finished.cleared ≡ cleared_in pages
  pub told : after ≡ before ++ (visit_acts pages ++ record { command = Release; reply = Released finished.bytes } ∷ [])
