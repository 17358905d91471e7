-- A heap as it is kept: a table whose marked blocks are those that are due, the starts of the late blocks, which were
-- given up since an epoch began, and how many granules the blocks have.
use Rattle.std.specs.Prelude.{◌≡◌, ◌<◌, ◌*◌, ◌||◌, if◌then◌else◌, ℕ, Bool, true, false, List, [], ◌∷◌, length, slice_index, slice_index_or}
use Rattle.heap_model.specs.Blocks.{bytes_in}
use Rattle.heap_model.specs.Heap.{HeapState}
use Rattle.heap_model.specs.Shadow.{bits_of}
use Rattle.heap_core.specs.Table.{IsTable, blocks_of, is_marked, is_unmarked}
use Rattle.heap_core.specs.declared.heap.Heap.TheInside.{Inside}

-- A mark where either has one.
abbrev pub either_mark : List Bool → List Bool → List Bool
either_mark [] lates = []
either_mark (mark ∷ marks) [] = mark ∷ marks
either_mark (mark ∷ marks) (late ∷ lates) = (mark || late) ∷ either_mark marks lates

-- What a caller sees of a table, with marks at the late blocks.
abbrev pub heap_state : ℕ → List ℕ → List Bool → List Bool → Bool → HeapState
heap_state base lengths marks lates is_open = record {
  base = base;
  size = 16 * length lengths;
  live = blocks_of is_unmarked base 0 lengths (either_mark marks lates);
  waiting = if is_open then blocks_of is_marked base 0 lengths lates else blocks_of is_marked base 0 lengths marks;
  painted = if is_open then blocks_of is_marked base 0 lengths marks else [];
  is_open = is_open;
}

-- The late blocks are blocks, none of them is due, and there are some in an open epoch alone.
pub record AreLate (lengths : List ℕ) (marks lates : List Bool) (is_open : Bool) : Type 0 where
  pub same : length lates ≡ length lengths
  pub some : (k : ℕ) → slice_index_or lates k false ≡ true → 0 < slice_index lengths k
  pub apart : (k : ℕ) → slice_index_or lates k false ≡ true → slice_index_or marks k false ≡ false
  pub closed : is_open ≡ false → (k : ℕ) → slice_index_or lates k false ≡ false

-- What a caller sees of a heap.
abbrev pub heap_inside : Inside → HeapState
heap_inside h = heap_state h.base h.table.lengths h.table.marks (bits_of h.late.items) h.is_open

-- The parts of a heap agree.
pub record IsConsistent (h : Inside) : Type 0 where
  pub table : IsTable h.base h.table.lengths h.table.marks
  pub lates : AreLate h.table.lengths h.table.marks (bits_of h.late.items) h.is_open
  pub live : 16 * h.live_granules ≡ bytes_in (blocks_of is_unmarked h.base 0 h.table.lengths (either_mark h.table.marks (bits_of h.late.items)))
  pub due : 16 * h.due_granules ≡ bytes_in (blocks_of is_marked h.base 0 h.table.lengths h.table.marks)
  pub late : 16 * h.late_granules ≡ bytes_in (blocks_of is_marked h.base 0 h.table.lengths (bits_of h.late.items))
