-- What the crates above need of blocks: what a test of an address and one of bounds say, of one block and
-- of a list; which blocks are due, and where they lie.
use Rattle.std.proofs.Common.{◌≡◌, ◌⊎◌, ◌<◌, ◌≤◌, ◌+◌, ◌-◌, ◌==◌, ◌++◌, ℕ, inl, inr, true, false, List, subst, arith}
use Rattle.std.specs.List.{Contains}
use Rattle.std.proofs.lemmas.Bool.{and_parts, eqb-true}
use Rattle.std.proofs.lemmas.Bool.Decides.{nat_tests}
use Rattle.std.proofs.lemmas.List.Elements.{All-append, All-contains, All-weaker}
use Rattle.std.proofs.lemmas.List.Folds.{Any-from_list_any, list_any_none}
use Rattle.std.specs.Prelude.{All, Bool, refl, if◌then◌else◌}
use Rattle.heap_model.specs.Blocks.{IsApart, Span, end_of, has_address, has_bounds, is_block, lies_in, start_of}
use Rattle.heap_model.specs.Claim.{IsClaimable, IsFirstOver, IsReason}
use Rattle.heap_model.specs.Heap.{HeapState, IsInside, IsSound, due}
use Rattle.heap_model.specs.Quarantine.{without_due, without_epoch, without_waiting}
use Rattle.heap_model.specs.declared.block.Block.{Block}
use Rattle.heap_model.specs.declared.block.Obstacle.{Obstacle}
use Rattle.heap_model.specs.declared.block.Obstacle.TheVariants.{Empty, Inexact, Outside, OverHeld, OverLive, Uneven}

-- An address within a block, before it and after it.
pub has_address-within : (a : ℕ) (block : Span) → start_of block ≤ a → a < end_of block → has_address a block ≡ true
has_address-within a block from before = grind (arith, nat_tests)

pub has_address-before : (a : ℕ) (block : Span) → a < start_of block → has_address a block ≡ false
has_address-before a block before = grind (arith, nat_tests)

pub has_address-after : (a : ℕ) (block : Span) → end_of block ≤ a → has_address a block ≡ false
has_address-after a block after = grind (arith, nat_tests)

-- A block with just these bounds.
pub has_bounds-is : (base top : ℕ) (block : Span) → has_bounds base top block ≡ true → (start_of block ≡ base) × (end_of block ≡ top)
has_bounds-is base top block is =
    let both = and_parts (start_of block == base) (end_of block == top) is in
    (eqb-true (start_of block) base both.0, eqb-true (end_of block) top both.1)

pub the_block : (base top : ℕ) (block : Span) → has_bounds base top block ≡ true → block ≡ (base, top - base)
the_block base top block is =
    let both = has_bounds-is base top block is in
    let length : block.1 ≡ top - base = omega (arith, both.0, both.1) in
    λ k. (both.0 k, length k)

pub Contains-block : (base top : ℕ) (blocks : List Span) → is_block blocks base top ≡ true → Contains blocks (base, top - base)
Contains-block base top blocks is =
    let found = Any-from_list_any (has_bounds base top) blocks is in
    subst (Contains blocks) (the_block base top found.1 found.4) (found.0, found.2, found.3)

-- ---- which blocks are due

-- In an open epoch those that are painted, and else those that wait.
pub due-open : (s : HeapState) → s.is_open ≡ true → due s ≡ s.painted
unfolding due
due-open s is = rw is refl

pub due-closed : (s : HeapState) → s.is_open ≡ false → due s ≡ s.waiting
unfolding due
due-closed s is = rw is refl

-- And so once these are free.
pub without_due-open : (s : HeapState) → s.is_open ≡ true → without_due s ≡ without_epoch s
unfolding without_due
without_due-open s is = rw is refl

pub without_due-closed : (s : HeapState) → s.is_open ≡ false → without_due s ≡ without_waiting s
unfolding without_due
without_due-closed s is = rw is refl

-- They lie inside the heap.
pub due-inside : (s : HeapState) → IsSound s → All (IsInside s) (due s)
unfolding due
due-inside s sound = either (All (IsInside s)) s.is_open sound.painted_inside sound.waiting_inside where
  either : (P : List Span → Type 0) (b : Bool) → P s.painted → P s.waiting → P (if b then s.painted else s.waiting)
  either P true p q = p
  either P false p q = q

has_address-outside : (s : HeapState) (a : ℕ) (block : Span) → IsInside s block → (a < s.base) ⊎ (s.base + s.size ≤ a) → has_address a block ≡ false
has_address-outside s a block inside (inl below) = has_address-before a block (omega (arith, below, inside.from))
has_address-outside s a block inside (inr above) = has_address-after a block (omega (arith, above, inside.end))

-- So no address outside the heap lies in one of them.
pub lies_in-outside : (s : HeapState) (a : ℕ) → IsSound s → (a < s.base) ⊎ (s.base + s.size ≤ a) → lies_in (due s) a ≡ false
lies_in-outside s a sound outside =
    list_any_none (has_address a) (due s)
    (All-weaker (IsInside s) (λ block. has_address a block ≡ false) (λ block inside. has_address-outside s a block inside outside) (due s) (due-inside s sound))

-- ---- bounds that are claimed

-- A block that shares an address with them isn't apart from them.
not_apart : (start top : ℕ) (b : Span) → start < top → start_of b < top → start < end_of b → ¬ IsApart (start, top - start) b
not_apart start top b order before after (inl ends) = omega arith
not_apart start top b order before after (inr begins) = omega arith

pub not_over : (blocks : List Span) (start top : ℕ) (block : Block) → start < top → IsFirstOver blocks start top block → ¬ All (IsApart (start, top - start)) blocks
not_over blocks start top block order is apart =
    not_apart start top (block.base, block.top - block.base) order is.over.0 (omega (arith, is.over.1)) (All-contains (IsApart (start, top - start)) blocks (block.base, block.top - block.base) apart is.there)

-- Where they may be a block's there is no reason against it.
pub no_reason : (s : HeapState) (start top : ℕ) (why : Obstacle) → IsClaimable s start top → IsReason s start top why → ⊥
no_reason s start top Uneven may reason = reason (may.free.start, omega (arith, may.free.start, may.free.whole, may.order))
no_reason s start top Empty may reason = absurd (omega (arith, may.order, reason.1))
no_reason s start top Outside may reason = reason.2 (may.free.from, omega (arith, may.free.end, may.order))
no_reason s start top Inexact may reason = reason.3 may.exact
no_reason s start top (OverLive block) may reason = not_over s.live start top block may.order reason.1 may.free.live
no_reason s start top (OverHeld block) may reason =
    not_over (s.waiting ++ s.painted) start top block may.order reason.2 (All-append (IsApart (start, top - start)) s.waiting s.painted may.free.waiting may.free.painted)
