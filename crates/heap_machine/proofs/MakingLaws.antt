-- What the blocks that were found say of words, and of a whole machine.
use Rattle.std.proofs.Common.{◌≡◌, ◌∙◌, ◌<◌, ◌≤◌, ◌+◌, ◌-◌, ◌^◌, inl, inr, ℕ, true, false, length, sym, ap, arith}
use Rattle.std.specs.List.{Contains}
use Rattle.std.specs.Prelude.{IsTrue, nat_le}
use Rattle.std.proofs.lemmas.Bool.{and_parts, true≢false}
use Rattle.std.proofs.lemmas.Bool.Decides.{nat_tests}
use Rattle.std.proofs.lemmas.List.Elements.{All-contains}
use Rattle.cap_codec.specs.Words.{bounds_in}
use Rattle.cap_codec.specs.declared.word.Bounds.{Bounds}
use Rattle.heap_model.specs.Blocks.{Span, end_of, has_address}
use Rattle.heap_model.specs.Found.{IsFound, IsInNoBlock, blocks_in}
use Rattle.heap_model.specs.Heap.{HeapState}
use Rattle.heap_model.specs.Laws.{Contains-block, has_address-within}
use Rattle.heap_model.specs.declared.block.Kind.{Kind}
use Rattle.heap_model.specs.declared.block.Kind.TheVariants.{Live, Painted, Waiting}
use Rattle.tag_memory.specs.Cells.{Cell, IsMemory, MemoryState}
use Rattle.machine_steps.specs.Safety.{IsGuarded, IsLiveOrHeld}

IsLiveOrHeld-kind : (heap : HeapState) (kind : Kind) (block : Span) → Contains (blocks_in heap kind) block → IsLiveOrHeld heap block
IsLiveOrHeld-kind heap Live block has = inl has
IsLiveOrHeld-kind heap Waiting block has = inr (inl has)
IsLiveOrHeld-kind heap Painted block has = inr (inr has)

kind_of : (heap : HeapState) (block : Span) → IsLiveOrHeld heap block → (kind : Kind) × Contains (blocks_in heap kind) block
kind_of heap block (inl live) = (Live, live)
kind_of heap block (inr (inl waits)) = (Waiting, waits)
kind_of heap block (inr (inr painted)) = (Painted, painted)

-- A word whose bounds end in the block in which they begin.
pub IsGuarded-found : (heap : HeapState) (c : Cell) (base top : ℕ) (kind : Kind) → IsFound heap (bounds_in c.0).base base top kind
    → (bounds_in c.0).base < (bounds_in c.0).top → (bounds_in c.0).top ≤ top → IsGuarded heap c
IsGuarded-found heap c base top kind found some end = record {
  within = λ _. (
    (base, top - base),
    IsLiveOrHeld-kind heap kind (base, top - base) (Contains-block base top (blocks_in heap kind) found.block),
    record { start = found.from; some = some; end = omega (arith, end, found.from, found.before) },
  );
}

-- One whose bounds don't.
pub not_guarded-past : (heap : HeapState) (c : Cell) (base top : ℕ) (kind : Kind) → IsFound heap (bounds_in c.0).base base top kind
    → IsTrue c.1 → top < (bounds_in c.0).top → IsGuarded heap c → ⊥
not_guarded-past heap c base top kind found tagged past guarded =
    let x = guarded.within tagged in
    let of = kind_of heap x.0 x.1 in
    let has : has_address (bounds_in c.0).base x.0 ≡ true = has_address-within (bounds_in c.0).base x.0 x.2.start (omega (arith, x.2.some, x.2.end)) in
    let is = All-contains (λ (b : Span). has_address (bounds_in c.0).base b ≡ true → (b ≡ (base, top - base)) × (of.0 ≡ kind)) (blocks_in heap of.0) x.0 (found.only of.0) of.1 has in
    let end : end_of x.0 ≡ base + (top - base) = ap end_of is.0 in
    omega (arith, end, x.2.end, past, found.from, found.before)

-- One whose bounds begin in no block.
pub not_guarded-none : (heap : HeapState) (c : Cell) → IsInNoBlock heap (bounds_in c.0).base → IsTrue c.1 → IsGuarded heap c → ⊥
not_guarded-none heap c none tagged guarded =
    let x = guarded.within tagged in
    let of = kind_of heap x.0 x.1 in
    let has : has_address (bounds_in c.0).base x.0 ≡ true = has_address-within (bounds_in c.0).base x.0 x.2.start (omega (arith, x.2.some, x.2.end)) in
    let out = All-contains (λ (b : Span). has_address (bounds_in c.0).base b ≡ false) (blocks_in heap of.0) x.0 (none of.0) of.1 in
    true≢false (sym has ∙ out)

-- The same of bounds under a name of their own.
pub IsGuarded-range : (heap : HeapState) (c : Cell) (range : Bounds) (base top : ℕ) (kind : Kind) → range ≡ bounds_in c.0 → IsFound heap range.base base top kind
    → range.base < range.top → range.top ≤ top → IsGuarded heap c
IsGuarded-range heap c range base top kind is found some end = IsGuarded-found heap c base top kind (rw is at found) (rw is at some) (rw is at end)

pub not_guarded-range : (heap : HeapState) (c : Cell) (range : Bounds) (base top : ℕ) (kind : Kind) → range ≡ bounds_in c.0 → IsFound heap range.base base top kind
    → IsTrue c.1 → top < range.top → IsGuarded heap c → ⊥
not_guarded-range heap c range base top kind is found tagged past = not_guarded-past heap c base top kind (rw is at found) tagged (rw is at past)

pub not_guarded-nowhere : (heap : HeapState) (c : Cell) (range : Bounds) → range ≡ bounds_in c.0 → IsInNoBlock heap range.base → IsTrue c.1 → IsGuarded heap c → ⊥
not_guarded-nowhere heap c range is none tagged = not_guarded-none heap c (rw is at none) tagged

-- A memory has few granules.
pub few_granules : (m : MemoryState) → IsMemory m → length m.granules ≤ 2 ^ 18
few_granules m is =
    let both = and_parts (nat_le 1 is.pages) (nat_le is.pages 1024) is.size in
    let most : is.pages ≤ 1024 = grind (arith, nat_tests, both.1) in
    omega (arith, is.count, most)
