-- The block in which an address lies.
use Rattle.std.specs.Prelude.{◌≡◌, ◌<◌, ◌≤◌, ◌-◌, ℕ, All, List, false, true}
use Rattle.heap_model.specs.Blocks.{Span, has_address, is_block}
use Rattle.heap_model.specs.Heap.{HeapState}
use Rattle.heap_model.specs.declared.block.Kind.{Kind}
use Rattle.heap_model.specs.declared.block.Kind.TheVariants.{Live, Painted, Waiting}

-- The blocks of one kind.
abbrev pub blocks_in : HeapState → Kind → List Span
blocks_in s Live = s.live
blocks_in s Waiting = s.waiting
blocks_in s Painted = s.painted

-- The address lies in the block from base to top, which is of this kind, and in no other.
pub record IsFound (s : HeapState) (a base top : ℕ) (kind : Kind) : Type 0 where
  pub block : is_block (blocks_in s kind) base top ≡ true
  pub from : base ≤ a
  pub before : a < top
  pub only : (other : Kind) → All (λ b. has_address a b ≡ true → (b ≡ (base, top - base)) × (other ≡ kind)) (blocks_in s other)

-- It lies in no block.
abbrev pub IsInNoBlock : HeapState → ℕ → Type 0
IsInNoBlock s a = (kind : Kind) → All (λ block. has_address a block ≡ false) (blocks_in s kind)
