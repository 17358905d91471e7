-- Blocks whose place a caller names: what they must be, and why they are refused.
use Rattle.std.specs.Prelude.{◌≡◌, ◌<◌, ◌≤◌, ◌+◌, ◌-◌, ◌*◌, ◌%◌, ◌++◌, ℕ, All, List, MatchOption, Option, Result, Ok, Err}
use Rattle.std.specs.List.{Contains}
use Rattle.cap_codec.specs.Rounding.{IsExact}
use Rattle.heap_model.specs.Blocks.{IsApart, Span, end_of, start_of}
use Rattle.heap_model.specs.Heap.{HeapState}
use Rattle.heap_model.specs.Place.{IsFreeBlock, with_block}
use Rattle.heap_model.specs.declared.block.Block.{Block}
use Rattle.heap_model.specs.declared.block.Obstacle.{Obstacle}
use Rattle.heap_model.specs.declared.block.Obstacle.TheVariants.{Empty, Inexact, Outside, OverHeld, OverLive, Uneven}

-- The bytes from base to top may become a block: they are free, and a capability can hold their bounds.
pub record IsClaimable (s : HeapState) (base top : ℕ) : Type 0 where
  pub order : base < top
  pub free : IsFreeBlock s base (top - base)
  pub exact : IsExact base top

-- Both bounds are multiples of 16.
abbrev pub AreEven : ℕ → ℕ → Type 0
AreEven base top = (base % 16 ≡ 0) × (top % 16 ≡ 0)

-- Both lie in the heap, or at its end.
abbrev pub AreInside : HeapState → ℕ → ℕ → Type 0
AreInside s base top = (s.base ≤ base) × (top ≤ s.base + s.size)

-- Nothing is wrong with them but that a block may lie there.
pub record CouldBeClaimed (s : HeapState) (base top : ℕ) : Type 0 where
  pub even : AreEven base top
  pub order : base < top
  pub inside : AreInside s base top
  pub exact : IsExact base top

-- They are those of so many granules, from granule number `first` of the heap on, and nothing is wrong with them.
pub record AreFitting (s : HeapState) (base top first count : ℕ) : Type 0 where
  pub could : CouldBeClaimed s base top
  pub at : s.base + 16 * first ≡ base
  pub length : 16 * count ≡ top - base

-- Of these blocks this one shares an address with the bytes from base to top, and none that starts before it does.
pub record IsFirstOver (blocks : List Span) (base top : ℕ) (block : Block) : Type 0 where
  pub there : Contains blocks (block.base, block.top - block.base)
  pub over : (block.base < top) × (base < block.top)
  pub first : All (λ b. start_of b < block.base → end_of b ≤ base) blocks

-- The first of these blocks that shares an address with them was found, or none does.
abbrev pub FindsOver : List Span → ℕ → ℕ → Option Block → Type 0
FindsOver blocks base top found = MatchOption found (All (IsApart (base, top - base)) blocks) (IsFirstOver blocks base top)

-- Why they may not: the first of these that is true.
abbrev pub IsReason : HeapState → ℕ → ℕ → Obstacle → Type 0
IsReason s base top Uneven = ¬ AreEven base top
IsReason s base top Empty = AreEven base top × (top ≤ base)
IsReason s base top Outside = AreEven base top × (base < top) × (¬ AreInside s base top)
IsReason s base top Inexact = AreEven base top × (base < top) × AreInside s base top × (¬ IsExact base top)
IsReason s base top (OverLive block) = CouldBeClaimed s base top × IsFirstOver s.live base top block
IsReason s base top (OverHeld block) =
    CouldBeClaimed s base top × All (IsApart (base, top - base)) s.live × IsFirstOver (s.waiting ++ s.painted) base top block

-- A claim of them, in the state `now`, is answered so, and leaves the state `new`: what was before where it is refused.
abbrev pub IsClaim : HeapState → HeapState → ℕ → ℕ → Result (Unit {0}) Obstacle → HeapState → Type 0
IsClaim before now base top (Ok done) new = IsClaimable now base top × (new ≡ with_block now base (top - base))
IsClaim before now base top (Err obstacle) new = IsReason now base top obstacle × (new ≡ before)
