-- The quarantine and its epochs (Filardo et al. 2020, Cornucopia): a block that was given up is held, and its bytes
-- are not used again, until no capability points into it. It waits, until an epoch begins, which paints all blocks
-- that wait; the painted ones are free when it ends. Without an epoch the blocks that wait become free at once. The
-- shadow has a bit for each granule, which says whether it lies in a block that is due.
use Rattle.std.specs.Prelude.{◌≡◌, ◌<◌, ◌≤◌, ◌+◌, ◌-◌, ◌*◌, ◌/◌, ◌||◌, ℕ, Bool, true, false, List, [], length, slice_index_or, if◌then◌else◌}
use Rattle.heap_model.specs.Blocks.{blocks_with, blocks_without, is_block, lies_in}
use Rattle.heap_model.specs.Heap.{HeapState, due}
use Rattle.heap_model.specs.declared.block.Freed.{Freed}
use Rattle.heap_model.specs.declared.block.Freed.TheVariants.{AlreadyHeld, Held, NotBlock}

-- A held block has just these bounds.
abbrev pub is_held_block : HeapState → ℕ → ℕ → Bool
is_held_block s base top = is_block s.waiting base top || is_block s.painted base top

-- What becomes of the bytes from base to top when they are given up: just the bounds count.
abbrev pub freed_of : HeapState → ℕ → ℕ → Freed
freed_of s base top = if is_block s.live base top then Held else (if is_held_block s base top then AlreadyHeld else NotBlock)

-- The heap once the live block from base to top waits.
abbrev pub with_waiting : HeapState → ℕ → ℕ → HeapState
with_waiting s base top = record s {
  live = blocks_without base top s.live;
  waiting = blocks_with (base, top - base) s.waiting;
}

-- The heap once an epoch has begun: all blocks that waited are painted.
abbrev pub with_epoch : HeapState → HeapState
with_epoch s = record s { waiting = []; painted = s.waiting; is_open = true }

-- The heap once the blocks that wait are free.
abbrev pub without_waiting : HeapState → HeapState
without_waiting s = record s { waiting = [] }

-- The heap once the epoch has ended: its painted blocks are free.
abbrev pub without_epoch : HeapState → HeapState
without_epoch s = record s { painted = []; is_open = false }

-- The heap once the blocks that are due are free.
unfoldable pub without_due : HeapState → HeapState
without_due s = if s.is_open then without_epoch s else without_waiting s

-- The shadow of a heap has for each granule, counted from the heap's base, whether it is painted: an
-- address of the heap lies in a block that is due exactly where its granule is.
pub record IsShadow (s : HeapState) (shadow : List Bool) : Type 0 where
  pub granules : 16 * length shadow ≡ s.size
  pub painted : (a : ℕ) → s.base ≤ a → a < s.base + s.size → slice_index_or shadow ((a - s.base) / 16) false ≡ lies_in (due s) a
