-- Safe reuse (Filardo et al. 2020, Cornucopia: heap temporal safety): bytes are handed out again only when
-- no capability for them is left. So each tagged word keeps within one block, which is in use or in
-- quarantine, and a new block shares no address with these.
use Rattle.std.specs.Prelude.{◌<◌, ◌≤◌, ◌⊎◌, ◌^◌, ℕ, All, IsTrue}
use Rattle.std.specs.List.{Contains}
use Rattle.cap_codec.specs.declared.word.Bounds.{Bounds}
use Rattle.heap_model.specs.Blocks.{Span, end_of, start_of}
use Rattle.heap_model.specs.Heap.{HeapState, IsSound as IsSoundHeap}
use Rattle.tag_memory.specs.Cells.{Cell, Granule, cell_of}
use Rattle.trace_text.specs.declared.trace.Command.{Command}
use Rattle.trace_text.specs.declared.trace.Command.TheVariants.{Malloc, Free, Copy, SetAddr, Narrow, AndPerm, StoreCap, LoadCap, Write, Show, Sweep, Begin, End}
use Rattle.heap_reply.specs.declared.reply.Reply.{Reply}
use Rattle.heap_reply.specs.declared.reply.Reply.TheVariants.{Block, BlockAfter, NoSpace, NoSpaceAfter, Held, Done, Cleared, Swept, Begun, Shown, Trap}
use Rattle.machine_steps.specs.State.{State}
use Rattle.machine_steps.specs.Step.{after_sweep}
use Rattle.cap_codec.specs.Words.{base_of, bounds_in}

-- The bounds lie in the block, and aren't empty.
pub record LieIn (bounds : Bounds) (block : Span) : Type 0 where
  pub start : start_of block ≤ bounds.base
  pub some : bounds.base < bounds.top
  pub end : bounds.top ≤ end_of block

-- A block that was given up is held, in quarantine: it waits, or is painted.
abbrev pub IsHeld : HeapState → Span → Type 0
IsHeld heap block = Contains heap.waiting block ⊎ Contains heap.painted block

-- A block in use is live.
abbrev pub IsLiveOrHeld : HeapState → Span → Type 0
IsLiveOrHeld heap block = Contains heap.live block ⊎ IsHeld heap block

-- The cell is guarded: where it is tagged, its bounds lie in one live or held block.
pub record IsGuarded (heap : HeapState) (c : Cell) : Type 0 where
  pub within : IsTrue c.1 → (block : Span) × IsLiveOrHeld heap block × LieIn (bounds_in c.0) block

-- The granule is guarded, as the word that its bytes are.
abbrev pub HoldsGuarded : HeapState → Granule → Type 0
HoldsGuarded heap granule = IsGuarded heap (cell_of granule)

-- No two blocks, live or held, share an address, and each tagged word is guarded.
pub record IsSafe (s : State) : Type 0 where
  pub heap : IsSoundHeap s.heap
  pub registers : All (IsGuarded s.heap) s.registers
  pub granules : All (HoldsGuarded s.heap) s.granules

-- The cell is tagged, and its base lies from `base` to before `top`.
pub record HasBaseIn (base top : ℕ) (c : Cell) : Type 0 where
  pub tagged : IsTrue c.1
  pub from : base ≤ base_of c.0
  pub before : base_of c.0 < top

-- No tagged word of the state, in a register or in memory, has its base there.
abbrev pub HasNoBase : State → ℕ → ℕ → Type 0
HasNoBase s base top =
    All (λ c. HasBaseIn base top c → ⊥) s.registers × All (λ granule. HasBaseIn base top (cell_of granule) → ⊥) s.granules

-- The block that a malloc is answered with is unused: before it is live no tagged word has its base there. Where the
-- malloc sweeps first, that is after the sweep.
abbrev pub IsUnusedBlock : State → Reply → Type 0
IsUnusedBlock s (Block base top) = HasNoBase s base top
IsUnusedBlock s (BlockAfter base top cleared) = HasNoBase (after_sweep s) base top
IsUnusedBlock s NoSpace = Unit {0}
IsUnusedBlock s (NoSpaceAfter cleared) = Unit {0}
IsUnusedBlock s (Held bytes) = ⊥
IsUnusedBlock s Done = ⊥
IsUnusedBlock s Cleared = ⊥
IsUnusedBlock s (Swept cleared released) = ⊥
IsUnusedBlock s (Begun cleared) = ⊥
IsUnusedBlock s (Shown shown) = ⊥
IsUnusedBlock s (Trap trap) = ⊥

-- The reply hands out no block.
abbrev pub HandsOutNothing : Reply → Type 0
HandsOutNothing (Block base top) = ⊥
HandsOutNothing (BlockAfter base top cleared) = ⊥
HandsOutNothing NoSpace = Unit {0}
HandsOutNothing (NoSpaceAfter cleared) = Unit {0}
HandsOutNothing (Held bytes) = Unit {0}
HandsOutNothing Done = Unit {0}
HandsOutNothing Cleared = Unit {0}
HandsOutNothing (Swept cleared released) = Unit {0}
HandsOutNothing (Begun cleared) = Unit {0}
HandsOutNothing (Shown shown) = Unit {0}
HandsOutNothing (Trap trap) = Unit {0}

-- What the command hands out, so answered in this state, is unused. Only a malloc hands out.
abbrev pub IsUnused : State → Command → Reply → Type 0
IsUnused s (Malloc rd size) r = IsUnusedBlock s r
IsUnused s (Free rs) r = HandsOutNothing r
IsUnused s (Copy rd rs) r = HandsOutNothing r
IsUnused s (SetAddr rd rs address) r = HandsOutNothing r
IsUnused s (Narrow rd rs length) r = HandsOutNothing r
IsUnused s (AndPerm rd rs mask) r = HandsOutNothing r
IsUnused s (StoreCap ra rs) r = HandsOutNothing r
IsUnused s (LoadCap rd ra) r = HandsOutNothing r
IsUnused s (Write ra bytes) r = HandsOutNothing r
IsUnused s (Show rs) r = HandsOutNothing r
IsUnused s Sweep r = HandsOutNothing r
IsUnused s Begin r = HandsOutNothing r
IsUnused s End r = HandsOutNothing r

-- The cell is in use: where it is tagged, its bounds lie in one live block.
pub record IsInUse (heap : HeapState) (c : Cell) : Type 0 where
  pub within : IsTrue c.1 → (block : Span) × Contains heap.live block × LieIn (bounds_in c.0) block

-- Each tagged word of the state is in use.
abbrev pub AreInUse : State → Type 0
AreInUse s = All (IsInUse s.heap) s.registers × All (λ granule. IsInUse s.heap (cell_of granule)) s.granules

-- The cell is in use, or its block waits: where it is tagged, its bounds lie in one live or waiting block.
pub record IsInUseOrWaiting (heap : HeapState) (c : Cell) : Type 0 where
  pub within : IsTrue c.1 → (block : Span) × (Contains heap.live block ⊎ Contains heap.waiting block) × LieIn (bounds_in c.0) block

-- Each tagged word of the state is in use, or its block waits.
abbrev pub AreInUseOrWaiting : State → Type 0
AreInUseOrWaiting s = All (IsInUseOrWaiting s.heap) s.registers × All (λ granule. IsInUseOrWaiting s.heap (cell_of granule)) s.granules

-- The reply tells of no sweep.
abbrev pub TellsNoSweep : Reply → Type 0
TellsNoSweep (Block base top) = Unit {0}
TellsNoSweep (BlockAfter base top cleared) = ⊥
TellsNoSweep NoSpace = Unit {0}
TellsNoSweep (NoSpaceAfter cleared) = ⊥
TellsNoSweep (Held bytes) = Unit {0}
TellsNoSweep Done = Unit {0}
TellsNoSweep Cleared = Unit {0}
TellsNoSweep (Swept cleared released) = ⊥
TellsNoSweep (Begun cleared) = Unit {0}
TellsNoSweep (Shown shown) = Unit {0}
TellsNoSweep (Trap trap) = Unit {0}

-- A malloc that swept leaves each tagged word in use; what else it may be answered tells of no sweep.
abbrev pub LeavesBlocksInUse : Reply → State → Type 0
LeavesBlocksInUse (Block base top) s = Unit {0}
LeavesBlocksInUse (BlockAfter base top cleared) s = AreInUse s
LeavesBlocksInUse NoSpace s = Unit {0}
LeavesBlocksInUse (NoSpaceAfter cleared) s = AreInUse s
LeavesBlocksInUse (Held bytes) s = ⊥
LeavesBlocksInUse Done s = ⊥
LeavesBlocksInUse Cleared s = ⊥
LeavesBlocksInUse (Swept cleared released) s = ⊥
LeavesBlocksInUse (Begun cleared) s = ⊥
LeavesBlocksInUse (Shown shown) s = ⊥
LeavesBlocksInUse (Trap trap) s = ⊥

-- A sweep that is done leaves what P says; else it is trapped.
abbrev pub LeavesSwept : (State → Type 0) → Reply → State → Type 0
LeavesSwept P (Block base top) s = ⊥
LeavesSwept P (BlockAfter base top cleared) s = ⊥
LeavesSwept P NoSpace s = ⊥
LeavesSwept P (NoSpaceAfter cleared) s = ⊥
LeavesSwept P (Held bytes) s = ⊥
LeavesSwept P Done s = ⊥
LeavesSwept P Cleared s = ⊥
LeavesSwept P (Swept cleared released) s = P s
LeavesSwept P (Begun cleared) s = ⊥
LeavesSwept P (Shown shown) s = ⊥
LeavesSwept P (Trap trap) s = Unit {0}

-- After a sweep no tagged word is left that points into a block that was given up: each is in use. After the end of an
-- epoch each is in use, or its block waits, which was given up since the epoch began. No other command tells of a sweep.
abbrev pub LeavesInUse : Command → Reply → State → Type 0
LeavesInUse (Malloc rd size) r s = LeavesBlocksInUse r s
LeavesInUse (Free rs) r s = TellsNoSweep r
LeavesInUse (Copy rd rs) r s = TellsNoSweep r
LeavesInUse (SetAddr rd rs address) r s = TellsNoSweep r
LeavesInUse (Narrow rd rs length) r s = TellsNoSweep r
LeavesInUse (AndPerm rd rs mask) r s = TellsNoSweep r
LeavesInUse (StoreCap ra rs) r s = TellsNoSweep r
LeavesInUse (LoadCap rd ra) r s = TellsNoSweep r
LeavesInUse (Write ra bytes) r s = TellsNoSweep r
LeavesInUse (Show rs) r s = TellsNoSweep r
LeavesInUse Sweep r s = LeavesSwept AreInUse r s
LeavesInUse Begin r s = TellsNoSweep r
LeavesInUse End r s = LeavesSwept AreInUseOrWaiting r s

-- A command so answered hands out bytes safely: what it hands out is unused before, and what a sweep leaves is in use.
pub record IsReuseSafe (old : State) (c : Command) (r : Reply) (new : State) : Type 0 where
  pub unused : IsUnused old c r
  pub revoked : LeavesInUse c r new

-- The numbers of the command fit their types, as those of every command of the program do.
abbrev pub FitsTypes : Command → Type 0
FitsTypes (Malloc rd size) = size < 2 ^ 64
FitsTypes (Free rs) = Unit {0}
FitsTypes (Copy rd rs) = Unit {0}
FitsTypes (SetAddr rd rs address) = address < 2 ^ 64
FitsTypes (Narrow rd rs length) = length < 2 ^ 64
FitsTypes (AndPerm rd rs mask) = mask < 2 ^ 16
FitsTypes (StoreCap ra rs) = Unit {0}
FitsTypes (LoadCap rd ra) = Unit {0}
FitsTypes (Write ra bytes) = Unit {0}
FitsTypes (Show rs) = Unit {0}
FitsTypes Sweep = Unit {0}
FitsTypes Begin = Unit {0}
FitsTypes End = Unit {0}
