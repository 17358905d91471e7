-- What a revoker without a barrier keeps (Filardo et al. 2020, Cornucopia): the pages that are dirty, which are all of them
-- once blocks are painted, a page being clean once it was visited, and dirty again once a tagged word is stored there.
use Rattle.std.specs.Prelude.{◌≡◌, ◌==◌, ◌&&◌, ℕ, All, Bool, true, false, List, [], ◌∷◌, slice_index_or, slice_set}
use Rattle.heap_model.specs.Sweep.{takes_tag}
use Rattle.tag_memory.specs.Cells.{cell_of}
use Rattle.trace_text.specs.declared.trace.Command.{Command}
use Rattle.trace_text.specs.declared.trace.Command.TheVariants.{Malloc, Free, Copy, SetAddr, Narrow, AndPerm, StoreCap, LoadCap, Write, Show, Sweep, Begin, End}
use Rattle.heap_reply.specs.declared.reply.Reply.{Reply}
use Rattle.machine_steps.specs.Dirty.{dirty_after}
use Rattle.machine_steps.specs.Safety.{FitsTypes}
use Rattle.machine_steps.specs.State.{State, register}
use Rattle.machine_steps.specs.Step.{index_in}
use Rattle.revoker_steps.specs.declared.command.RevokerCommand.TheVariants.{Paint, Release, UntagGranule, UntagRegister, Visit}
use Rattle.revoker_steps.specs.Events.{Event}
use Rattle.revoker_steps.specs.Events.Event.{Answered, Revoked}
use Rattle.revoker_steps.specs.Revoker.{RevokerStep}

-- Within an open epoch the event may happen in old, where these pages are dirty, and leaves new, and these. What closes
-- the epoch isn't of it.
abbrev pub HappensTracked : (State → Command → Reply → State → Type 0) → State → List Bool → Event → State → List Bool → Type 0
HappensTracked By old dirty (Answered command reply) new left =
    FitsTypes command × By old command reply new × (new.heap.is_open ≡ true) × (left ≡ dirty_after old command dirty)
HappensTracked By old dirty (Revoked Paint reply) new left = ⊥
HappensTracked By old dirty (Revoked (UntagGranule address) reply) new left = RevokerStep old (UntagGranule address) reply new × (left ≡ dirty)
HappensTracked By old dirty (Revoked (UntagRegister r) reply) new left = RevokerStep old (UntagRegister r) reply new × (left ≡ dirty)
HappensTracked By old dirty (Revoked (Visit page) reply) new left = RevokerStep old (Visit page) reply new × (left ≡ slice_set dirty page false)
HappensTracked By old dirty (Revoked Release reply) new left = ⊥

-- So may these, one after the other.
abbrev pub RunsTracked : (State → Command → Reply → State → Type 0) → State → List Bool → List Event → State → List Bool → Type 0
RunsTracked By old dirty [] new left = (new ≡ old) × (left ≡ dirty)
RunsTracked By old dirty (event ∷ events) new left =
    (mid : State) × (between : List Bool) × HappensTracked By old dirty event mid between × RunsTracked By mid between events new left

-- Each page is clean.
abbrev pub AreClean : List Bool → Type 0
AreClean dirty = All (λ b. b ≡ false) dirty

-- ---- granule by granule

-- Each granule that is tagged with its base in a painted block passes the test: it is still to be looked at, or again.
abbrev pub IsDueAt : State → (ℕ → Bool) → Type 0
IsDueAt s due = (i : ℕ) → takes_tag s.heap.painted (cell_of (slice_index_or s.granules i (0, false))) ≡ true → due i ≡ true

-- The command may store a tagged word into this granule.
abbrev pub stores_at : State → Command → ℕ → Bool
stores_at s (StoreCap ra rs) i = i == index_in s (register s ra).0 && (register s rs).1
stores_at s (Malloc rd size) i = false
stores_at s (Free rs) i = false
stores_at s (Copy rd rs) i = false
stores_at s (SetAddr rd rs address) i = false
stores_at s (Narrow rd rs n) i = false
stores_at s (AndPerm rd rs mask) i = false
stores_at s (LoadCap rd ra) i = false
stores_at s (Write ra bytes) i = false
stores_at s (Show rs) i = false
stores_at s Sweep i = false
stores_at s Begin i = false
stores_at s End i = false
