-- The places of a heap are the free runs of its table from multiples of the block's unit on.
use Rattle.std.proofs.Common.{◌≡◌, ◌<◌, ◌≤◌, ◌+◌, ◌-◌, ◌*◌, ◌/◌, ◌%◌, inl, inr, ℕ, Bool, true, false, List, length, get_or, refl, sym, ◌∙◌, subst, arith}
use Rattle.std.proofs.lemmas.Bool.{cases_Bool, or_cases}
use Rattle.std.proofs.lemmas.List.Elements.{All-nil}
use Rattle.std.specs.Prelude.{All}
use Rattle.heap_model.specs.Blocks.{IsApart, Span}
use Rattle.heap_core.specs.Consistent.{AreLate, either_mark, heap_state}
use Rattle.heap_model.specs.Heap.{HeapState}
use Rattle.heap_model.specs.Place.{IsFree, IsFreeBlock, IsPlace, block_unit, granule_size}
use Rattle.heap_core.specs.Table.{IsFirstGap, IsGap, IsTable, blocks_of, is_marked, is_unmarked, is_occupied}
use Rattle.heap_core.proofs.BlockLaws.{All-block, All-blocks_of}
use Rattle.heap_core.proofs.LateLaws.{get_or-either, length-either, no_due}
use Rattle.heap_core.proofs.RunLaws.{is_taken_by, run_is_apart}
use Rattle.heap_model.specs.SizeLaws.{HasShape, IsFreeBlock-free, le-block_length}
use Rattle.heap_core.proofs.ExtentLaws.{LiesWithin-table}

-- Each block shares no address with a free run.
All-IsApart : (keeps : Bool → Bool) (base : ℕ) {lengths : List ℕ} (marks : List Bool) {p n : ℕ} → IsGap lengths p n
    → All (IsApart (base + 16 * p, 16 * n)) (blocks_of keeps base 0 lengths marks)
All-IsApart keeps base {lengths} marks {p} {n} run =
    All-blocks_of (IsApart (base + 16 * p, 16 * n)) keeps base 0 lengths marks true
    (λ k start at lt some kept. elim (run_is_apart k run some) [ inl before ↦ inr (omega arith) | inr after ↦ inl (omega arith) ])

-- Granules that share no address with a block, live or held, are free.
apart_is_free : (base : ℕ) (lengths : List ℕ) (marks : List Bool) (p n k : ℕ) → length marks ≡ length lengths
    → All (IsApart (base + 16 * p, 16 * n)) (blocks_of is_unmarked base 0 lengths marks)
    → All (IsApart (base + 16 * p, 16 * n)) (blocks_of is_marked base 0 lengths marks)
    → p ≤ k → k < p + n → k < length lengths → is_occupied k lengths ≡ false
apart_is_free base lengths marks p n k same live held le lt within =
    elim (cases_Bool (is_occupied k lengths)) [
      | inl taken ↦
          let by = is_taken_by lengths k taken in
          let inside : by.0 < length lengths = omega (arith, by.1.0) in
          let some : 0 < get_or lengths by.0 0 = omega (arith, by.1.0, by.1.1) in
          let P : Span → Type 0 = IsApart (base + 16 * p, 16 * n) in
          let apart : IsApart (base + 16 * p, 16 * n) (base + 16 * by.0, 16 * get_or lengths by.0 0) =
          elim (cases_Bool (get_or marks by.0 true)) [
            | inl is ↦ All-block P is_marked base 0 lengths marks true by.0 held same (omega arith) inside some is
            | inr is ↦ All-block P is_unmarked base 0 lengths marks true by.0 live same (omega arith) inside some (rw is refl)
          ] in
          elim apart [
            | inl before ↦ absurd (omega (arith, by.1.0, by.1.1))
            | inr after ↦ absurd (omega (arith, by.1.0, by.1.1))
          ]
      | inr free ↦ free
    ]

-- The granule of a heap's base, counted from address 0.
pub base_granule : {base : ℕ} {lengths : List ℕ} {marks : List Bool} → IsTable base lengths marks → base ≡ 16 * (base / 16)
base_granule table = omega (arith, (LiesWithin-table table).multiple)

-- What holds of the blocks that are due and of the late ones holds of those with either mark.
All-either : (P : Span → Type 0) (base : ℕ) (lengths : List ℕ) (marks lates : List Bool) → length marks ≡ length lengths → length lates ≡ length lengths
    → All P (blocks_of is_marked base 0 lengths marks) → All P (blocks_of is_marked base 0 lengths lates) → All P (blocks_of is_marked base 0 lengths (either_mark marks lates))
All-either P base lengths marks lates same also due late =
    All-blocks_of P is_marked base 0 lengths (either_mark marks lates) false
    (λ k start at lt some kept. elim (or_cases (get_or marks k false) (get_or lates k false) (sym (get_or-either marks lates k (also ∙ sym same)) ∙ kept)) [
      | inl is ↦ All-block P is_marked base 0 lengths marks false k due same at lt some is
      | inr is ↦ All-block P is_marked base 0 lengths lates false k late also at lt some is
    ])

-- A block may lie at a free run.
pub IsFreeBlock-from_run : {base : ℕ} {lengths : List ℕ} {marks : List Bool} (lates : List Bool) {is_open : Bool} {p n : ℕ} → IsTable base lengths marks
    → IsGap lengths p n → IsFreeBlock (heap_state base lengths marks lates is_open) (base + 16 * p) (16 * n)
IsFreeBlock-from_run {base} {marks} lates {is_open = true} table run =
    record {
      start = omega (arith, base_granule table);
      whole = omega arith;
      some = omega (arith, run.some);
      from = omega arith;
      end = omega (arith, run.end);
      live = All-IsApart is_unmarked base (either_mark marks lates) run;
      waiting = All-IsApart is_marked base lates run;
      painted = All-IsApart is_marked base marks run;
    }
IsFreeBlock-from_run {base} {marks} lates {is_open = false} {p} {n} table run =
    record {
      start = omega (arith, base_granule table);
      whole = omega arith;
      some = omega (arith, run.some);
      from = omega arith;
      end = omega (arith, run.end);
      live = All-IsApart is_unmarked base (either_mark marks lates) run;
      waiting = All-IsApart is_marked base marks run;
      painted = All-nil (IsApart (base + 16 * p, 16 * n));
    }

-- From a multiple of its unit on it is a place for a block of that size.
IsFree-from_run : {base : ℕ} {lengths : List ℕ} {marks : List Bool} (lates : List Bool) {is_open : Bool} {size p n unit : ℕ} → IsTable base lengths marks → HasShape size n unit
    → IsGap lengths p n → (base / 16 + p) % unit ≡ 0 → IsFree (heap_state base lengths marks lates is_open) size (base + 16 * p)
IsFree-from_run {base} lates {is_open} {size} {p} table has run multiple =
    let at : 16 * (base / 16 + p) ≡ base + 16 * p = omega (arith, base_granule table) in
    let free = IsFreeBlock-from_run lates {is_open = is_open} table run in
    record {
      granule = free.start;
      unit = subst (λ a. a % block_unit size ≡ 0) at (has.units.from (base / 16 + p) multiple);
      from = free.from;
      end = rw has.length free.end;
      live = rw has.length free.live;
      waiting = rw has.length free.waiting;
      painted = rw has.length free.painted;
    }

-- What a free block shares no address with, by the marks.
apart_from_due : (base : ℕ) (lengths : List ℕ) (marks lates : List Bool) (is_open : Bool) (a n : ℕ) → IsFreeBlock (heap_state base lengths marks lates is_open) a n
    → All (IsApart (a, n)) (blocks_of is_marked base 0 lengths marks)
apart_from_due base lengths marks lates true a n free = free.painted
apart_from_due base lengths marks lates false a n free = free.waiting

apart_from_late : {base : ℕ} {lengths : List ℕ} {marks lates : List Bool} {is_open : Bool} {a n : ℕ} → AreLate lengths marks lates is_open → IsFreeBlock (heap_state base lengths marks lates is_open) a n
    → All (IsApart (a, n)) (blocks_of is_marked base 0 lengths lates)
apart_from_late {is_open = true} are free = free.waiting
apart_from_late {base} {lengths} {lates} {is_open = false} {a} {n} are free = rw (no_due base 0 lengths lates (are.closed refl)) (All-nil (IsApart (a, n)))

-- Where a block may lie, there is a free run.
pub IsGap-from_block : {base : ℕ} {lengths : List ℕ} {marks lates : List Bool} {is_open : Bool} {p n : ℕ} → IsTable base lengths marks → AreLate lengths marks lates is_open
    → IsFreeBlock (heap_state base lengths marks lates is_open) (base + 16 * p) (16 * n) → IsGap lengths p n
IsGap-from_block {base} {lengths} {marks} {lates} {is_open} {p} {n} table are free =
    let end : p + n ≤ length lengths = omega (arith, free.end) in
    let due = apart_from_due base lengths marks lates is_open (base + 16 * p) (16 * n) free in
    let late = apart_from_late are free in
    let held = All-either (IsApart (base + 16 * p, 16 * n)) base lengths marks lates table.same are.same due late in
    record {
      some = omega (arith, free.some);
      end = end;
      free = λ k le lt. apart_is_free base lengths (either_mark marks lates) p n k (length-either marks lates ∙ table.same) free.live held le lt (omega arith);
    }

pub IsGap-from_free : {base : ℕ} {lengths : List ℕ} {marks lates : List Bool} {is_open : Bool} {size a n unit : ℕ} → IsTable base lengths marks → AreLate lengths marks lates is_open
    → HasShape size n unit → IsFree (heap_state base lengths marks lates is_open) size a → IsGap lengths ((a - base) / 16) n
IsGap-from_free {base} {lengths} {marks} {lates} {is_open} {size} {a} table are has free =
    let at : a ≡ base + 16 * ((a - base) / 16) = omega (arith, free.granule, free.from, base_granule table) in
    let block = IsFreeBlock-free (heap_state base lengths marks lates is_open) size a free in
    IsGap-from_block table are (rw (has.length, at) at block)

-- And it is from a multiple of its unit on.
pub multiple-from_free : {base : ℕ} {lengths : List ℕ} {marks : List Bool} (lates : List Bool) {is_open : Bool} {size a n unit : ℕ} → IsTable base lengths marks
    → HasShape size n unit → IsFree (heap_state base lengths marks lates is_open) size a → (base / 16 + (a - base) / 16) % unit ≡ 0
multiple-from_free {base} lates {size} {a} table has free =
    let at : a ≡ 16 * (base / 16 + (a - base) / 16) = omega (arith, free.granule, free.from, base_granule table) in
    has.units.to (base / 16 + (a - base) / 16) (subst (λ x. x % block_unit size ≡ 0) at free.unit)

-- A block that is longer than the heap has no place.
pub too_long : {s : HeapState} {size a : ℕ} (asked : ℕ) → 16 * asked ≡ granule_size size → s.size < 16 * asked → IsFree s size a → ⊥
too_long {size} asked holds long free = omega (arith, free.from, free.end, le-block_length size asked holds)

-- The first such run is at the least place.
pub IsPlace-from_run : {base : ℕ} {lengths : List ℕ} {marks lates : List Bool} {is_open : Bool} {size p n unit : ℕ} → IsTable base lengths marks → AreLate lengths marks lates is_open
    → HasShape size n unit → IsFirstGap (base / 16) unit lengths p n → IsPlace (heap_state base lengths marks lates is_open) size (base + 16 * p)
IsPlace-from_run {base} {lates} table are has first =
    record {
      free = IsFree-from_run lates table has first.run first.multiple;
      least = λ a free.
          let le = first.least ((a - base) / 16) (IsGap-from_free table are has free)
          (multiple-from_free lates table has free) in
          omega (arith, free.from);
    }
