-- A heap that is made as a text tells: the painted blocks first, then those that wait and the live ones, granule by granule.
use Rattle.std.specs.Prelude.{◌≡◌, ◌+◌, ◌*◌, ℕ, Bool, false, List, [], filter, nat_lt}
use Rattle.heap_model.specs.Blocks.{Span, start_of}
use Rattle.heap_model.specs.Heap.{HeapState}

-- The blocks that start before an address.
abbrev pub blocks_below : ℕ → List Span → List Span
blocks_below a xs = filter (λ b. nat_lt (start_of b) a) xs

-- The heap, with no more of its live blocks, and of those that wait, than start below granule number i: so it is made once
-- the rows below i are read.
unfoldable pub heap_below : HeapState → ℕ → HeapState
heap_below heap i = record heap { live = blocks_below (heap.base + 16 * i) heap.live; waiting = blocks_below (heap.base + 16 * i) heap.waiting }

-- The heap s lies where m does and has no blocks, and an epoch is to be open as it is there.
pub record IsStart (m s : HeapState) (is_open : Bool) : Type 0 where
  pub empty : s ≡ record m { live = []; waiting = []; painted = []; is_open = false }
  pub open_is : is_open ≡ m.is_open
