-- What keeps a heap sound, seen from its blocks alone.
use Rattle.std.proofs.Common.{◌≡◌, ◌<◌, ◌≤◌, ◌-◌, inl, inr, nat_lt, not, ℕ, zero, suc, Bool, true, List, [], ◌∷◌, refl, arith}
use Rattle.std.proofs.lemmas.Bool.{cases_Bool, ltb-true, true≢false}
use Rattle.std.proofs.lemmas.Bool.Decides.{nat_tests}
use Rattle.std.proofs.lemmas.List.Elements.{All-cons, All-contains, All-filter, All-head, All-nil, All-tail, All-weaker}
use Rattle.std.proofs.lemmas.List.Kept.{AllPairs-cons, AllPairs-filter}
use Rattle.std.specs.Prelude.{All, AllPairs, false, if◌then◌else◌}
use Rattle.heap_model.specs.Blocks.{IsApart, IsBefore, Span, blocks_with, blocks_without, has_bounds, is_block, length_of, start_of}
use Rattle.heap_model.specs.Heap.{HeapState, IsInside, IsSound}
use Rattle.heap_model.specs.Laws.{Contains-block, has_bounds-is}
use Rattle.heap_model.specs.Place.{IsFreeBlock, with_block}
use Rattle.heap_model.specs.Quarantine.{with_epoch, with_waiting, without_due, without_epoch, without_waiting}

-- ---- lists of blocks

AllPairs-head : (b : Span) (blocks : List Span) → AllPairs IsBefore (b ∷ blocks) → All (IsBefore b) blocks
AllPairs-head b blocks h = λ k d within. h zero (suc k) d (omega arith) (omega arith)

AllPairs-tail : (b : Span) (blocks : List Span) → AllPairs IsBefore (b ∷ blocks) → AllPairs IsBefore blocks
AllPairs-tail b blocks h = λ j k d less within. h (suc j) (suc k) d (omega arith) (omega arith)

-- What holds of each block and of one more holds of each with that one.
All-blocks_with : (P : Span → Type 0) (block : Span) (blocks : List Span) → P block → All P blocks → All P (blocks_with block blocks)
All-blocks_with P block [] here all = All-cons P block [] here (All-nil P)
All-blocks_with P block (b ∷ blocks) here all =
    elim (cases_Bool (nat_lt (start_of block) (start_of b))) [
      | inl first ↦ rw first (All-cons P block (b ∷ blocks) here all)
      | inr later ↦ rw later (All-cons P b (blocks_with block blocks) (All-head P b blocks all) (All-blocks_with P block blocks here (All-tail P b blocks all)))
    ]

-- A block that shares no address with others has its place in their order.
AllPairs-blocks_with : (block : Span) (blocks : List Span) → 0 < length_of block → All (IsApart block) blocks → AllPairs IsBefore blocks
    → AllPairs IsBefore (blocks_with block blocks)
AllPairs-blocks_with block [] some apart order = AllPairs-cons IsBefore block [] (All-nil (IsBefore block)) order
AllPairs-blocks_with block (b ∷ blocks) some apart order =
    let tail = AllPairs-tail b blocks order in
    let head = AllPairs-head b blocks order in
    elim (cases_Bool (nat_lt (start_of block) (start_of b))) [
      | inl first ↦
          let less : start_of block < start_of b = ltb-true (start_of block) (start_of b) first in
          let before : IsBefore block b = elim (All-head (IsApart block) b blocks apart) [ inl left ↦ left | inr right ↦ absurd (omega arith) ] in
          let all = All-weaker (IsBefore b) (IsBefore block) (λ c after. omega (arith, before, after)) blocks head in
          rw first (AllPairs-cons IsBefore block (b ∷ blocks) (All-cons (IsBefore block) b blocks before all) order)
      | inr later ↦
          let least : start_of b ≤ start_of block = grind (arith, nat_tests, later) in
          let before : IsBefore b block = elim (All-head (IsApart block) b blocks apart) [ inl left ↦ absurd (omega arith) | inr right ↦ right ] in
          rw later (AllPairs-cons IsBefore b (blocks_with block blocks) (All-blocks_with (IsBefore b) block blocks before head)
          (AllPairs-blocks_with block blocks some (All-tail (IsApart block) b blocks apart) tail))
    ]

-- ---- a block more

-- A free block lies inside the heap.
IsInside-free : (s : HeapState) (a length : ℕ) → IsFreeBlock s a length → IsInside s (a, length)
IsInside-free s a length free = record { start = free.start; length = free.whole; some = free.some; from = free.from; end = free.end }

-- Where a block lies in a heap doesn't hang on the heap's blocks.
IsInside-blocks : (s new : HeapState) → new.base ≡ s.base → new.size ≡ s.size → (block : Span) → IsInside s block → IsInside new block
IsInside-blocks s new base size block inside =
    record { start = inside.start; length = inside.length; some = inside.some; from = omega (arith, inside.from, base); end = omega (arith, inside.end, base, size) }

pub IsSound-block : (s : HeapState) (a length : ℕ) → IsSound s → IsFreeBlock s a length → IsSound (with_block s a length)
IsSound-block s a length sound free =
    let block : Span = (a, length) in
    let new = with_block s a length in
    let inside = IsInside-free s a length free in
    let still = IsInside-blocks s new refl refl in
    record {
      pages = sound.pages;
      bytes = sound.bytes;
      size = sound.size;
      place = sound.place;
      live_inside = All-blocks_with (IsInside new) block s.live (still block inside)
          (All-weaker (IsInside s) (IsInside new) still s.live sound.live_inside);
      waiting_inside = All-weaker (IsInside s) (IsInside new) still s.waiting sound.waiting_inside;
      painted_inside = All-weaker (IsInside s) (IsInside new) still s.painted sound.painted_inside;
      live_order = AllPairs-blocks_with block s.live inside.some free.live sound.live_order;
      waiting_order = sound.waiting_order;
      painted_order = sound.painted_order;
      apart_waiting = All-blocks_with (λ b. All (IsApart b) s.waiting) block s.live free.waiting sound.apart_waiting;
      apart_painted = All-blocks_with (λ b. All (IsApart b) s.painted) block s.live free.painted sound.apart_painted;
      apart_held = sound.apart_held;
      closed = sound.closed;
    }

-- ---- a block held

-- Blocks in order share no address with the one that is taken out.
apart-without : (base top : ℕ) (blocks : List Span) → AllPairs IsBefore blocks → is_block blocks base top ≡ true
    → All (λ b. IsApart b (base, top - base)) (blocks_without base top blocks)
apart-without base top [] order there = absurd cc
apart-without base top (b ∷ blocks) order there =
    let tail = AllPairs-tail b blocks order in
    let head = AllPairs-head b blocks order in
    let P : Span → Type 0 = λ c. IsApart c (base, top - base) in
    elim (cases_Bool (has_bounds base top b)) [
      | inl is ↦
          let bounds = has_bounds-is base top b is in
          let rest : All P blocks = All-weaker (IsBefore b) P (λ c after. inr (omega (arith, after, bounds.0, bounds.1))) blocks head in
          rw is (All-filter (λ c. not (has_bounds base top c)) P blocks rest)
      | inr is ↦
          let later : is_block blocks base top ≡ true = rw is at there in
          let before = All-contains (IsBefore b) blocks (base, top - base) head (Contains-block base top blocks later) in
          rw is (All-cons P b (blocks_without base top blocks) (inl before) (apart-without base top blocks tail later))
    ]

pub IsSound-waiting : (s : HeapState) (base top : ℕ) → IsSound s → is_block s.live base top ≡ true → IsSound (with_waiting s base top)
IsSound-waiting s base top sound there =
    let new = with_waiting s base top in
    let block : Span = (base, top - base) in
    let keeps : Span → Bool = λ b. not (has_bounds base top b) in
    let in_live = Contains-block base top s.live there in
    let inside = All-contains (IsInside s) s.live block sound.live_inside in_live in
    let apart = All-contains (λ b. All (IsApart b) s.waiting) s.live block sound.apart_waiting in_live in
    let from_painted = All-contains (λ b. All (IsApart b) s.painted) s.live block sound.apart_painted in_live in
    let others = apart-without base top s.live sound.live_order there in
    let still = IsInside-blocks s new refl refl in
    record {
      pages = sound.pages;
      bytes = sound.bytes;
      size = sound.size;
      place = sound.place;
      live_inside = All-filter keeps (IsInside new) s.live (All-weaker (IsInside s) (IsInside new) still s.live sound.live_inside);
      waiting_inside = All-blocks_with (IsInside new) block s.waiting (still block inside) (All-weaker (IsInside s) (IsInside new) still s.waiting sound.waiting_inside);
      painted_inside = All-weaker (IsInside s) (IsInside new) still s.painted sound.painted_inside;
      live_order = AllPairs-filter IsBefore keeps s.live sound.live_order;
      waiting_order = AllPairs-blocks_with block s.waiting inside.some apart sound.waiting_order;
      painted_order = sound.painted_order;
      apart_waiting = λ k d within. All-blocks_with (IsApart _) block s.waiting (others k d within) (All-filter keeps (λ b. All (IsApart b) s.waiting) s.live sound.apart_waiting k d within);
      apart_painted = All-filter keeps (λ b. All (IsApart b) s.painted) s.live sound.apart_painted;
      apart_held = All-blocks_with (λ b. All (IsApart b) s.painted) block s.waiting from_painted sound.apart_held;
      closed = sound.closed;
    }

-- ---- blocks given back, and epochs

no_pairs : AllPairs IsBefore []
no_pairs = λ j k d less within. absurd (omega arith)

pub IsSound-free : (s : HeapState) → IsSound s → IsSound (without_waiting s)
IsSound-free s sound =
    let new = without_waiting s in
    let still = IsInside-blocks s new refl refl in
    record {
      pages = sound.pages;
      bytes = sound.bytes;
      size = sound.size;
      place = sound.place;
      live_inside = All-weaker (IsInside s) (IsInside new) still s.live sound.live_inside;
      waiting_inside = All-nil (IsInside new);
      painted_inside = All-weaker (IsInside s) (IsInside new) still s.painted sound.painted_inside;
      live_order = sound.live_order;
      waiting_order = no_pairs;
      painted_order = sound.painted_order;
      apart_waiting = All-weaker (λ b. All (IsApart b) s.waiting) (λ b. All (IsApart b) []) (λ b _. All-nil (IsApart b)) s.live sound.apart_waiting;
      apart_painted = sound.apart_painted;
      apart_held = All-nil (λ b. All (IsApart b) s.painted);
      closed = sound.closed;
    }

pub IsSound-begun : (s : HeapState) → IsSound s → IsSound (with_epoch s)
IsSound-begun s sound =
    let new = with_epoch s in
    let still = IsInside-blocks s new refl refl in
    record {
      pages = sound.pages;
      bytes = sound.bytes;
      size = sound.size;
      place = sound.place;
      live_inside = All-weaker (IsInside s) (IsInside new) still s.live sound.live_inside;
      waiting_inside = All-nil (IsInside new);
      painted_inside = All-weaker (IsInside s) (IsInside new) still s.waiting sound.waiting_inside;
      live_order = sound.live_order;
      waiting_order = no_pairs;
      painted_order = sound.waiting_order;
      apart_waiting = All-weaker (λ b. All (IsApart b) s.waiting) (λ b. All (IsApart b) []) (λ b _. All-nil (IsApart b)) s.live sound.apart_waiting;
      apart_painted = sound.apart_waiting;
      apart_held = All-nil (λ b. All (IsApart b) s.waiting);
      closed = λ e. absurd (true≢false e);
    }

pub IsSound-ended : (s : HeapState) → IsSound s → IsSound (without_epoch s)
IsSound-ended s sound =
    let new = without_epoch s in
    let still = IsInside-blocks s new refl refl in
    record {
      pages = sound.pages;
      bytes = sound.bytes;
      size = sound.size;
      place = sound.place;
      live_inside = All-weaker (IsInside s) (IsInside new) still s.live sound.live_inside;
      waiting_inside = All-weaker (IsInside s) (IsInside new) still s.waiting sound.waiting_inside;
      painted_inside = All-nil (IsInside new);
      live_order = sound.live_order;
      waiting_order = sound.waiting_order;
      painted_order = no_pairs;
      apart_waiting = sound.apart_waiting;
      apart_painted = All-weaker (λ b. All (IsApart b) s.painted) (λ b. All (IsApart b) []) (λ b _. All-nil (IsApart b)) s.live sound.apart_painted;
      apart_held = All-weaker (λ b. All (IsApart b) s.painted) (λ b. All (IsApart b) []) (λ b _. All-nil (IsApart b)) s.waiting sound.apart_held;
      closed = λ _. refl;
    }

-- In either case.
pub IsSound-due : (s : HeapState) → IsSound s → IsSound (without_due s)
unfolding without_due
IsSound-due s sound = either (without_epoch s) (without_waiting s) s.is_open (IsSound-ended s sound) (IsSound-free s sound) where
  either : (x y : HeapState) (b : Bool) → IsSound x → IsSound y → IsSound (if b then x else y)
  either x y true p q = p
  either x y false p q = q
