-- What each command answers, and what state it leaves: the table of the commands (this project's own
-- profile). First come the checks of a command in their order; the first that fails is the trap, and a trap
-- changes nothing. Where none fails, the effect is the command's.
use Rattle.std.specs.Prelude.{◌≡◌, ◌⊎◌, ℕ, ◌+◌, ◌-◌, ◌/◌, ◌%◌, Bool, true, false, not, ◌||◌, slice_index_or, slice_set, List, [], ◌∷◌, Option, Some, None, ◌&&◌, ◌==◌, count_by, nat_le, if◌then◌else◌}
use Rattle.cap_codec.specs.declared.word.Word.{Word}
use Rattle.cap_codec.specs.Bytes.{bits_of_bytes}
use Rattle.cap_codec.specs.Words.{address_in, allows, bounds_in, capability_of, is_exact, keeps_bounds, lie_within, load, load_capability, narrowed_word, store, store_capability, with_address, with_perms}
use Rattle.heap_model.specs.Blocks.{bytes_in, is_block}
use Rattle.heap_model.specs.Place.{IsFree, IsPlace, block_length, with_live}
use Rattle.heap_model.specs.Quarantine.{is_held_block, with_epoch, with_waiting, without_epoch, without_waiting}
use Rattle.heap_model.specs.Sweep.{swept_cells, swept_granules, tags_taken, takes_tag}
use Rattle.tag_memory.specs.Cells.{Cell, Granule, cell_of, null_cell}
use Rattle.trace_text.specs.declared.trace.Command.{Command}
use Rattle.trace_text.specs.declared.trace.Command.TheVariants.{Malloc, Free, Copy, SetAddr, Narrow, AndPerm, StoreCap, LoadCap, Write, Show, Sweep, Begin, End}
use Rattle.heap_reply.specs.declared.reply.Reply.{Reply}
use Rattle.heap_reply.specs.declared.reply.Reply.TheVariants.{Block, BlockAfter, NoSpace, NoSpaceAfter, Held, Done, Cleared, Swept, Begun}
use Rattle.heap_reply.specs.declared.reply.Reply.TheVariants as reply
use Rattle.heap_reply.specs.declared.reply.Trap.{Trap}
use Rattle.heap_reply.specs.declared.reply.Trap.TheVariants as trap
use Rattle.heap_reply.specs.Shown.{shown_of}
use Rattle.machine_steps.specs.State.{State, register, with_register}

-- ---- accesses

-- The checks of an access to the 16 bytes at the address of a register, which is allowed so.
abbrev pub access : Cell → Bool → List (Bool × Trap)
access c allowed =
    let a = address_in c.0 in
    (c.1, trap.Tag)
    ∷ (allowed, trap.Perm)
    ∷ (lie_within (bounds_in c.0) a 16, trap.Bounds)
    ∷ (a % 16 == 0, trap.Align) ∷ []

-- The index of the granule at a word's address.
abbrev pub index_in : State → Word → ℕ
index_in s w = (address_in w - s.heap.base) / 16

-- The granule there, and the state after a write to it.
abbrev pub granule_at : State → Word → Granule
granule_at s w = slice_index_or s.granules (index_in s w) (0, false)

abbrev pub with_granule : State → Word → Granule → State
with_granule s w granule = record s { granules = slice_set s.granules (index_in s w) granule }

-- ---- freeing, sweeping and epochs

-- The state once the live block with a word's bounds waits.
abbrev pub after_free : State → Word → State
after_free s w = record s { heap = with_waiting s.heap (bounds_in w).base (bounds_in w).top }

-- The state after a sweep: each tagged word whose base lies in a block that waits has lost its tag, in memory and
-- in the registers, and these blocks are free.
abbrev pub after_sweep : State → State
after_sweep s = record s {
  heap = without_waiting s.heap;
  granules = swept_granules s.heap.waiting s.granules;
  registers = swept_cells s.heap.waiting s.registers;
}

-- How many tags a sweep takes.
abbrev pub sweep_takes : State → ℕ
sweep_takes s = tags_taken s.heap.waiting s.granules s.registers

-- The state once an epoch has begun: the blocks that waited are painted, and each tagged word in memory whose base lies
-- in one of them has lost its tag. The registers stay.
abbrev pub after_begin : State → State
after_begin s = record s { heap = with_epoch s.heap; granules = swept_granules s.heap.waiting s.granules }

-- How many tags that takes.
abbrev pub begin_takes : State → ℕ
begin_takes s = count_by (λ g. takes_tag s.heap.waiting (cell_of g)) s.granules

-- The state once the epoch has ended: each tagged word whose base lies in a painted block has lost its tag, in memory
-- and in the registers, and these blocks are free. The blocks that wait stay so.
abbrev pub after_end : State → State
after_end s = record s {
  heap = without_epoch s.heap;
  granules = swept_granules s.heap.painted s.granules;
  registers = swept_cells s.heap.painted s.registers;
}

-- How many tags that takes.
abbrev pub end_takes : State → ℕ
end_takes s = tags_taken s.heap.painted s.granules s.registers

-- ---- handing out

-- No block of this size has a place.
abbrev pub HasNoPlace : State → ℕ → Type 0
HasNoPlace s size = (a : ℕ) → IsFree s.heap size a → ⊥

-- A block of this size becomes live at its least place, from base to top, and the register has its capability.
pub record HandsOut (old : State) (rd size base top : ℕ) (new : State) : Type 0 where
  pub place : IsPlace old.heap size base
  pub end : top ≡ base + block_length size
  pub state : new ≡ record (with_register old rd (capability_of base top, true)) { heap = with_live old.heap size base }

-- No block of this size has a place, and the register is null.
pub record HandsOutNone (old : State) (rd size : ℕ) (new : State) : Type 0 where
  pub none : HasNoPlace old size
  pub state : new ≡ with_register old rd null_cell

-- A malloc may sweep: no epoch is open, and some block waits.
pub record MaySweep (s : State) : Type 0 where
  pub closed : s.heap.is_open ≡ false
  pub waiting : s.heap.waiting ≡ [] → ⊥

-- A malloc of this size sweeps first, and takes so many tags: it has no place, and may sweep.
pub record SweepsFirst (old : State) (size cleared : ℕ) : Type 0 where
  pub none : HasNoPlace old size
  pub may : MaySweep old
  pub cleared_is : cleared ≡ sweep_takes old

-- ---- steps

-- The checks of a command in order, each with the trap where it fails.
abbrev pub checks : State → Command → List (Bool × Trap)
checks s (Malloc rd size) = []
checks s (Copy rd rs) = []
checks s (SetAddr rd rs address) = []
checks s (AndPerm rd rs mask) = []
checks s (Show rs) = []
checks s Sweep = (not s.heap.is_open, trap.Open) ∷ []
checks s Begin = (not s.heap.is_open, trap.Open) ∷ []
checks s End = (s.heap.is_open, trap.NotOpen) ∷ []
checks s (Free rs) =
    let c = register s rs in
    let b = bounds_in c.0 in
    (c.1, trap.Tag)
    ∷ (not (is_held_block s.heap b.base b.top), trap.Freed)
    ∷ (is_block s.heap.live b.base b.top, trap.NotBlock) ∷ []
checks s (Narrow rd rs n) =
    let c = register s rs in
    let a = address_in c.0 in
    (c.1, trap.Tag)
    ∷ (nat_le 1 n, trap.Empty)
    ∷ (lie_within (bounds_in c.0) a n, trap.Bounds)
    ∷ (is_exact a (a + n), trap.Inexact) ∷ []
checks s (StoreCap ra rs) =
    let w = (register s ra).0 in
    access (register s ra) (allows store w && (not (register s rs).1 || allows store_capability w))
checks s (LoadCap rd ra) = access (register s ra) (allows load (register s ra).0)
checks s (Write ra bytes) = access (register s ra) (allows store (register s ra).0)

-- The trap of the first check that fails.
abbrev pub first_failed : List (Bool × Trap) → Option Trap
first_failed [] = None
first_failed (c ∷ cs) = if c.0 then first_failed cs else Some c.1

-- What a command does where no check fails.
abbrev pub Effect : State → Command → Reply → State → Type 0
Effect old (Malloc rd size) (Block base top) new = HandsOut old rd size base top new
Effect old (Malloc rd size) (BlockAfter base top cleared) new = SweepsFirst old size cleared × HandsOut (after_sweep old) rd size base top new
Effect old (Malloc rd size) NoSpace new = (MaySweep old → ⊥) × HandsOutNone old rd size new
Effect old (Malloc rd size) (NoSpaceAfter cleared) new = SweepsFirst old size cleared × HandsOutNone (after_sweep old) rd size new
Effect old (Malloc rd size) (Held bytes) new = ⊥
Effect old (Malloc rd size) Done new = ⊥
Effect old (Malloc rd size) Cleared new = ⊥
Effect old (Malloc rd size) (Swept cleared released) new = ⊥
Effect old (Malloc rd size) (Begun cleared) new = ⊥
Effect old (Malloc rd size) (reply.Shown shown) new = ⊥
Effect old (Malloc rd size) (reply.Trap trap) new = ⊥
Effect old (Free rs) answer new =
    let w = (register old rs).0 in
    (answer ≡ Held ((bounds_in w).top - (bounds_in w).base)) × (new ≡ after_free old w)
Effect old (Copy rd rs) answer new = (answer ≡ Done) × (new ≡ with_register old rd (register old rs))
Effect old (SetAddr rd rs a) answer new =
    let c = register old rs in
    (answer ≡ (if c.1 && not (keeps_bounds c.0 a) then Cleared else Done))
    × (new ≡ with_register old rd (with_address c.0 a, c.1 && keeps_bounds c.0 a))
Effect old (Narrow rd rs n) answer new =
    let c = register old rs in
    (answer ≡ Done) × (new ≡ with_register old rd (narrowed_word c.0 (address_in c.0) (address_in c.0 + n), true))
Effect old (AndPerm rd rs mask) answer new =
    let c = register old rs in
    (answer ≡ Done) × (new ≡ with_register old rd (with_perms c.0 mask, c.1))
Effect old (StoreCap ra rs) answer new =
    let c = register old rs in
    (answer ≡ Done) × (new ≡ with_granule old (register old ra).0 (c.0.bits, c.1))
Effect old (LoadCap rd ra) answer new =
    let w = (register old ra).0 in
    let granule = granule_at old w in
    (answer ≡ Done) × (new ≡ with_register old rd (record { bits = granule.0 }, granule.1 && allows load_capability w))
Effect old (Write ra bytes) answer new = (answer ≡ Done) × (new ≡ with_granule old (register old ra).0 (bits_of_bytes bytes, false))
Effect old (Show rs) answer new = (answer ≡ reply.Shown (shown_of (register old rs))) × (new ≡ old)
Effect old Sweep answer new =
    (answer ≡ Swept (sweep_takes old) (bytes_in old.heap.waiting)) × (new ≡ after_sweep old)
Effect old Begin answer new = (answer ≡ Begun (begin_takes old)) × (new ≡ after_begin old)
Effect old End answer new =
    (answer ≡ Swept (end_takes old) (bytes_in old.heap.painted)) × (new ≡ after_end old)

-- The step where a check fails, and where none does.
abbrev pub StepAfter : Option Trap → State → Command → Reply → State → Type 0
StepAfter None old command answer new = Effect old command answer new
StepAfter (Some trap) old command answer new = (answer ≡ reply.Trap trap) × (new ≡ old)

-- From the state old, the command is answered so and leaves the state new.
abbrev pub Step : State → Command → Reply → State → Type 0
Step old command answer new = StepAfter (first_failed (checks old command)) old command answer new

-- The command needs no memory: it makes no pass, since no block waits, since an epoch is open or isn't, or since the block
-- that it asks for has a place.
abbrev pub NeedsNoMemory : State → Command → Type 0
NeedsNoMemory s (Malloc rd size) = ((a : ℕ) × IsFree s.heap size a) ⊎ (MaySweep s → ⊥)
NeedsNoMemory s (Free rs) = Unit {0}
NeedsNoMemory s (Copy rd rs) = Unit {0}
NeedsNoMemory s (SetAddr rd rs address) = Unit {0}
NeedsNoMemory s (Narrow rd rs length) = Unit {0}
NeedsNoMemory s (AndPerm rd rs mask) = Unit {0}
NeedsNoMemory s (StoreCap ra rs) = Unit {0}
NeedsNoMemory s (LoadCap rd ra) = Unit {0}
NeedsNoMemory s (Write ra bytes) = Unit {0}
NeedsNoMemory s (Show rs) = Unit {0}
NeedsNoMemory s Sweep = (s.heap.is_open ≡ true) ⊎ (s.heap.waiting ≡ [])
NeedsNoMemory s Begin = (s.heap.is_open ≡ true) ⊎ (s.heap.waiting ≡ [])
NeedsNoMemory s End = s.heap.is_open ≡ false
