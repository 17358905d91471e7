-- What holds of every heap, from its table and its late blocks.
use Rattle.std.proofs.Common.{◌≡◌, ◌<◌, ◌+◌, ◌*◌, ◌||◌, inl, inr, ℕ, Bool, true, false, List, length, get_or, not, refl, sym, ap, ◌∙◌, arith}
use Rattle.std.proofs.lemmas.Bool.{cases_order, true≢false}
use Rattle.std.proofs.lemmas.List.Elements.{All-nil}
use Rattle.std.specs.Prelude.{All}
use Rattle.heap_model.specs.Blocks.{IsApart}
use Rattle.heap_core.specs.Consistent.{AreLate, either_mark, heap_state}
use Rattle.heap_model.specs.Heap.{HeapState, IsInside, IsSound}
use Rattle.heap_core.specs.Table.{IsTable, blocks_of, is_marked, is_unmarked}
use Rattle.heap_core.proofs.BlockLaws.{All-blocks_of, AllPairs-blocks_of}
use Rattle.heap_core.proofs.LateLaws.{get_or-either, length-either}
use Rattle.heap_core.proofs.ExtentLaws.{LiesWithin-table}

-- A table stays one with other marks.
pub IsTable-marks : {base : ℕ} {lengths : List ℕ} {marks others : List Bool} → length others ≡ length lengths → IsTable base lengths marks → IsTable base lengths others
IsTable-marks same table = record {
  same = same;
  pages = table.pages;
  count = table.count;
  size = table.size;
  place = table.place;
  inside = table.inside;
  apart = table.apart;
}

All-IsInside : (s : HeapState) (keeps : Bool → Bool) {base : ℕ} {lengths : List ℕ} {marks : List Bool} → s.base ≡ base → s.size ≡ 16 * length lengths → IsTable base lengths marks
    → All (IsInside s) (blocks_of keeps base 0 lengths marks)
All-IsInside s keeps {base} {lengths} {marks} start bytes table =
    let within = LiesWithin-table table in
    All-blocks_of (IsInside s) keeps base 0 lengths marks true
    (λ k at at_is lt some kept. record {
      start = omega (arith, within.multiple);
      length = omega arith;
      some = omega arith;
      from = omega (arith, start);
      end = omega (arith, table.inside k lt, start, bytes);
    })

-- Two blocks that start at different granules of one table share no address.
granules_are_apart : {base : ℕ} {lengths : List ℕ} {marks : List Bool} (j k start_j start_k : ℕ) → IsTable base lengths marks
    → start_j ≡ base + 16 * (0 + j) → start_k ≡ base + 16 * (0 + k) → 0 < get_or lengths j 0 → 0 < get_or lengths k 0
    → (j ≡ k → ⊥) → IsApart (start_j, 16 * get_or lengths j 0) (start_k, 16 * get_or lengths k 0)
granules_are_apart j k start_j start_k table at_j at_k some_j some_k other =
    elim (cases_order j k) [
      | inl same ↦ absurd (other same)
      | inr order ↦ elim order [
        | inl less ↦ inl (omega (arith, table.apart j k less some_k))
        | inr more ↦ inr (omega (arith, table.apart k j more some_j))
      ]
    ]

-- So blocks by two kinds of marks share no address, where no granule has both.
All-IsApart : (keeps other : Bool → Bool) {base : ℕ} {lengths : List ℕ} {marks : List Bool} (others : List Bool) → IsTable base lengths marks
    → ((k : ℕ) → keeps (get_or marks k false) ≡ true → other (get_or others k false) ≡ true → ⊥)
    → All (λ block. All (IsApart block) (blocks_of other base 0 lengths others)) (blocks_of keeps base 0 lengths marks)
All-IsApart keeps other {base} {lengths} {marks} others table none =
    All-blocks_of (λ block. All (IsApart block) (blocks_of other base 0 lengths others)) keeps base 0 lengths marks false
    (λ j start_j at_j _ some_j one.
    All-blocks_of (IsApart (start_j, 16 * get_or lengths j 0)) other base 0 lengths others false
    (λ k start_k at_k _ some_k two.
    granules_are_apart j k start_j start_k table at_j at_k some_j some_k (λ same. none j one (ap (λ (i : ℕ). other (get_or others i false)) same ∙ two))))

neither : (a b : Bool) → not (a || b) ≡ true → (a ≡ false) × (b ≡ false)
neither true b e = absurd cc
neither false true e = absurd cc
neither false false e = (refl, refl)

-- What a live block isn't.
pub live_is_neither : (lengths : List ℕ) (marks lates : List Bool) (k : ℕ) → length marks ≡ length lengths → length lates ≡ length lengths → is_unmarked (get_or (either_mark marks lates) k false) ≡ true
    → (get_or marks k false ≡ false) × (get_or lates k false ≡ false)
live_is_neither lengths marks lates k same also live =
    neither (get_or marks k false) (get_or lates k false) (ap not (sym (get_or-either marks lates k (also ∙ sym same))) ∙ live)

module _ {base : ℕ} {lengths : List ℕ} {marks : List Bool} (lates : List Bool) (table : IsTable base lengths marks) where
  both : length lates ≡ length lengths → IsTable base lengths (either_mark marks lates)
  both also = IsTable-marks (length-either marks lates ∙ table.same) table

  live_and_due : length lates ≡ length lengths → All (λ block. All (IsApart block) (blocks_of is_marked base 0 lengths marks)) (blocks_of is_unmarked base 0 lengths (either_mark marks lates))
  live_and_due also =
      All-IsApart is_unmarked is_marked marks (both also) (λ k live held. true≢false (sym held ∙ (live_is_neither lengths marks lates k table.same also live).0))

  live_and_late : length lates ≡ length lengths → All (λ block. All (IsApart block) (blocks_of is_marked base 0 lengths lates)) (blocks_of is_unmarked base 0 lengths (either_mark marks lates))
  live_and_late also =
      All-IsApart is_unmarked is_marked lates (both also) (λ k live late. true≢false (sym late ∙ (live_is_neither lengths marks lates k table.same also live).1))

  late_and_due : (is_open : Bool) → AreLate lengths marks lates is_open → All (λ block. All (IsApart block) (blocks_of is_marked base 0 lengths marks)) (blocks_of is_marked base 0 lengths lates)
  late_and_due is_open are = All-IsApart is_marked is_marked marks (IsTable-marks are.same table) (λ k late held. true≢false (sym held ∙ are.apart k late))

pub IsSound-from_table : {base : ℕ} {lengths : List ℕ} {marks lates : List Bool} {is_open : Bool} → IsTable base lengths marks → AreLate lengths marks lates is_open
    → IsSound (heap_state base lengths marks lates is_open)
IsSound-from_table {base} {lengths} {marks} {lates} {is_open = true} table are =
    let s = heap_state base lengths marks lates true in
    record {
      pages = table.pages;
      bytes = omega (arith, table.count);
      size = table.size;
      place = table.place;
      live_inside = All-IsInside s is_unmarked refl refl (both lates table are.same);
      waiting_inside = All-IsInside s is_marked refl refl (IsTable-marks are.same table);
      painted_inside = All-IsInside s is_marked refl refl table;
      live_order = AllPairs-blocks_of is_unmarked base 0 lengths (either_mark marks lates) table.apart;
      waiting_order = AllPairs-blocks_of is_marked base 0 lengths lates table.apart;
      painted_order = AllPairs-blocks_of is_marked base 0 lengths marks table.apart;
      apart_waiting = live_and_late lates table are.same;
      apart_painted = live_and_due lates table are.same;
      apart_held = late_and_due lates table true are;
      closed = λ e. absurd (true≢false e);
    }
IsSound-from_table {base} {lengths} {marks} {lates} {is_open = false} table are =
    let s = heap_state base lengths marks lates false in
    record {
      pages = table.pages;
      bytes = omega (arith, table.count);
      size = table.size;
      place = table.place;
      live_inside = All-IsInside s is_unmarked refl refl (both lates table are.same);
      waiting_inside = All-IsInside s is_marked refl refl table;
      painted_inside = All-nil (IsInside s);
      live_order = AllPairs-blocks_of is_unmarked base 0 lengths (either_mark marks lates) table.apart;
      waiting_order = AllPairs-blocks_of is_marked base 0 lengths marks table.apart;
      painted_order = λ j k d less within. absurd (omega arith);
      apart_waiting = live_and_due lates table are.same;
      apart_painted = λ k d within. All-nil (IsApart _);
      apart_held = λ k d within. All-nil (IsApart _);
      closed = λ _. refl;
    }
