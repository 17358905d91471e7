-- A shadow that several workers paint: the blocks that are due are cut into shares, one a worker.
use Rattle.std.specs.Prelude.{◌≡◌, ◌<◌, ◌+◌, ◌*◌, ◌/◌, ℕ, Bool, List, true, false, length, slice_index_or}
use Rattle.heap_model.specs.Blocks.{lies_in}
use Rattle.heap_model.specs.Heap.{HeapState, due}
use Rattle.heap_core.specs.Painting.{is_in_due}
use Rattle.mark_board.specs.Bits.{has}
use Rattle.mark_board.specs.Board.{BoardState, IsOf, IsSeat, SeatState, no_bits}
use Rattle.sweep_pool.specs.declared.painting.Share.{Share}

-- The number of the block with which share i begins, where h are due and there are so many workers.
abbrev pub share_start : ℕ → ℕ → ℕ → ℕ
share_start h workers i = i * h / workers

-- The board has a bit for each granule of the heap.
abbrev pub HasGranules : HeapState → BoardState → Type 0
HasGranules s board = 16 * board.bits ≡ s.size

-- Granule k lies in a block that is due.
abbrev pub is_due_at : HeapState → ℕ → Bool
is_due_at s k = lies_in (due s) (s.base + 16 * k)

-- Share i, not yet painted: a seat with one part that has set nothing.
pub record IsUnpainted (board : BoardState) (workers i : ℕ) (share : Share) : Type 0 where
  pub number : share.number ≡ i
  pub few : i < workers
  pub seat : IsOf board share.seat
  pub part : share.seat.parts ≡ 1
  pub none : share.seat.mine ≡ no_bits board
  pub sound : IsSeat share.seat

-- Just the blocks that are due, from number `first` up to `last`, are painted through a seat: it has seen all their
-- granules set, and has set no others.
pub record HasPainted (s : HeapState) (board : BoardState) (first last : ℕ) (seat : SeatState) : Type 0 where
  pub of : IsOf board seat
  pub sound : IsSeat seat
  pub mine : (k : ℕ) → is_in_due s first last k ≡ false → has seat.mine k ≡ 0
  pub seen : (k : ℕ) → is_in_due s first last k ≡ true → has seat.seen k ≡ 1

-- Each element has its number's property.
abbrev pub EachAt : {X : Type 0} → (ℕ → X → Type 0) → List X → Type 0
EachAt {X = X} P xs = (i : ℕ) (d : X) → i < length xs → P i (slice_index_or xs i d)

-- Share i is painted.
pub record IsPaintedShare (s : HeapState) (board : BoardState) (workers i : ℕ) (seat : SeatState) : Type 0 where
  pub painted : HasPainted s board (share_start (length (due s)) workers i) (share_start (length (due s)) workers (i + 1)) seat
  pub part : seat.parts ≡ 1
