-- Granules painted on a board that several threads share (Filardo et al. 2020, Cornucopia: the shadow bitmap):
-- bit k of the board is that of granule k, counted from the heap's base.
use Rattle.std.specs.Prelude.{◌≡◌, ◌+◌, ◌-◌, ◌*◌, ℕ, Bool, true, false, List, drop, take}
use Rattle.mark_board.specs.Bits.{Within, has}
use Rattle.mark_board.specs.Board.{BoardState, IsOf, IsSeat, SeatState}
use Rattle.heap_model.specs.Blocks.{Span, lies_in}
use Rattle.heap_model.specs.Heap.{HeapState, due}

-- Through a seat the granules that pass a test are painted, and no others: it has seen all of them set, and has set
-- none but them.
pub record IsPainted (test : ℕ → Bool) (board : BoardState) (old new : SeatState) : Type 0 where
  pub of : IsOf board new
  pub parts : new.parts ≡ old.parts
  pub sound : IsSeat old → IsSeat new
  pub kept : Within old.seen new.seen
  pub seen : (k : ℕ) → test k ≡ true → has new.seen k ≡ 1
  pub mine : (k : ℕ) → test k ≡ false → has new.mine k ≡ has old.mine k

-- The blocks that are due, number `first` to `last - 1`, by rising start.
abbrev pub due_blocks : HeapState → ℕ → ℕ → List Span
due_blocks s first last = take (last - first) (drop first (due s))

-- Granule k lies in one of them.
abbrev pub is_in_due : HeapState → ℕ → ℕ → ℕ → Bool
is_in_due s first last k = lies_in (due_blocks s first last) (s.base + 16 * k)
