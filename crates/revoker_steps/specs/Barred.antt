-- The invariant of a revoker with a barrier at loads (Filardo et al. 2024, Cornucopia Reloaded): from an epoch's start on
-- no register is tagged with its base in a painted block, and no granule of a page that was seen is.
use Rattle.std.specs.Prelude.{◌≡◌, ◌/◌, ℕ, All, Bool, true, false, List, [], ◌∷◌, None, slice_index_or, slice_set}
use Rattle.heap_model.specs.Quarantine.{with_epoch}
use Rattle.heap_model.specs.Sweep.{swept_cells, takes_tag}
use Rattle.tag_memory.specs.Cells.{cell_of, null_cell}
use Rattle.tag_memory.specs.Extent.{page_granules}
use Rattle.trace_text.specs.declared.trace.Command.{Command}
use Rattle.trace_text.specs.declared.trace.Command.TheVariants.{Malloc, Free, Copy, SetAddr, Narrow, AndPerm, StoreCap, LoadCap, Write, Show, Sweep, Begin, End}
use Rattle.heap_reply.specs.declared.reply.Reply.{Reply}
use Rattle.machine_steps.specs.Safety.{FitsTypes}
use Rattle.machine_steps.specs.State.{State, register}
use Rattle.machine_steps.specs.Step.{checks, first_failed, index_in}
use Rattle.revoker_steps.specs.Events.{Event}
use Rattle.revoker_steps.specs.Events.Event.{Answered, Revoked}
use Rattle.revoker_steps.specs.Revoker.{RevokerStep}
use Rattle.revoker_steps.specs.declared.command.RevokerCommand.TheVariants.{Paint, Release, UntagGranule, UntagRegister, Visit}

-- Whether this page was seen; past the last one none was.
abbrev pub is_seen : List Bool → ℕ → Bool
is_seen seen page = slice_index_or seen page false

-- The granules that pass the test were looked at: none of them, and no register, is tagged with its base in a painted block.
pub record IsBarredAt (s : State) (done : ℕ → Bool) : Type 0 where
  pub registers : (r : ℕ) → takes_tag s.heap.painted (slice_index_or s.registers r null_cell) ≡ false
  pub granules : (i : ℕ) → done i ≡ true → takes_tag s.heap.painted (cell_of (slice_index_or s.granules i (0, false))) ≡ false

-- The granule is in a page that was seen.
abbrev pub in_seen : List Bool → ℕ → Bool
in_seen seen i = is_seen seen (i / page_granules)

-- The same where whole pages were looked at.
abbrev pub IsBarred : State → List Bool → Type 0
IsBarred s seen = IsBarredAt s (in_seen seen)

-- How such an epoch starts: all blocks that waited are painted, and no register is tagged with its base in one.
abbrev pub after_start : State → State
after_start s = record s { heap = with_epoch s.heap; registers = swept_cells s.heap.waiting s.registers }

-- The page that a load by this register is from.
abbrev pub page_at : State → ℕ → ℕ
page_at s ra = index_in s (register s ra).0 / page_granules

-- What the barrier sees to: a load that isn't trapped is of a granule that was looked at.
abbrev pub LoadsDone : State → (ℕ → Bool) → Command → Type 0
LoadsDone s done (LoadCap rd ra) = first_failed (checks s (LoadCap rd ra)) ≡ None → done (index_in s (register s ra).0) ≡ true
LoadsDone s done (Malloc rd size) = Unit {0}
LoadsDone s done (Free rs) = Unit {0}
LoadsDone s done (Copy rd rs) = Unit {0}
LoadsDone s done (SetAddr rd rs address) = Unit {0}
LoadsDone s done (Narrow rd rs n) = Unit {0}
LoadsDone s done (AndPerm rd rs mask) = Unit {0}
LoadsDone s done (StoreCap ra rs) = Unit {0}
LoadsDone s done (Write ra bytes) = Unit {0}
LoadsDone s done (Show rs) = Unit {0}
LoadsDone s done Sweep = Unit {0}
LoadsDone s done Begin = Unit {0}
LoadsDone s done End = Unit {0}

-- It is from a page that was seen.
abbrev pub LoadsSeen : State → List Bool → Command → Type 0
LoadsSeen s seen command = LoadsDone s (in_seen seen) command

-- ---- epochs

-- Within an open epoch the event may happen in old, where these pages were seen, and leaves new, and these. What
-- closes the epoch isn't of it.
abbrev pub HappensBarred : (State → Command → Reply → State → Type 0) → State → List Bool → Event → State → List Bool → Type 0
HappensBarred By old seen (Answered command reply) new left =
    LoadsSeen old seen command × FitsTypes command × By old command reply new × (new.heap.is_open ≡ true) × (left ≡ seen)
HappensBarred By old seen (Revoked Paint reply) new left = ⊥
HappensBarred By old seen (Revoked (UntagGranule address) reply) new left = RevokerStep old (UntagGranule address) reply new × (left ≡ seen)
HappensBarred By old seen (Revoked (UntagRegister r) reply) new left = RevokerStep old (UntagRegister r) reply new × (left ≡ seen)
HappensBarred By old seen (Revoked (Visit page) reply) new left = RevokerStep old (Visit page) reply new × (left ≡ slice_set seen page true)
HappensBarred By old seen (Revoked Release reply) new left = ⊥

-- So may these, one after the other.
abbrev pub RunsBarred : (State → Command → Reply → State → Type 0) → State → List Bool → List Event → State → List Bool → Type 0
RunsBarred By old seen [] new left = (new ≡ old) × (left ≡ seen)
RunsBarred By old seen (event ∷ events) new left =
    (mid : State) × (between : List Bool) × HappensBarred By old seen event mid between × RunsBarred By mid between events new left

-- Each page was seen.
abbrev pub AreSeen : List Bool → Type 0
AreSeen seen = All (λ b. b ≡ true) seen
