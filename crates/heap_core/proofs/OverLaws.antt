-- Blocks that have some of a run's granules, as blocks of the table and as those of the heap.
use Rattle.std.proofs.Common.{◌≡◌, ◌∙◌, ◌<◌, ◌≤◌, ◌+◌, ◌-◌, ◌*◌, ◌==◌, ◌||◌, ◌++◌, inl, inr, ℕ, Bool, true, false, List, [], Option, None, Some, MatchOption, length, get_or, refl, sym, ap, arith}
use Rattle.std.proofs.lemmas.Bool.{and_from, and_parts, cases_lt, eq-eqb, not-true, or_cases, true≢false}
use Rattle.std.proofs.lemmas.List.Elements.{All-append, All-nil, Contains-append_left, Contains-append_right}
use Rattle.std.specs.Option.{unwrap_or}
use Rattle.std.specs.Prelude.{All, nat_lt, not}
use Rattle.std.specs.List.{Contains}
use Rattle.heap_model.specs.Blocks.{IsApart, end_of, has_bounds, start_of}
use Rattle.heap_model.specs.Claim.{IsFirstOver}
use Rattle.heap_core.specs.Consistent.{AreLate, either_mark, heap_state}
use Rattle.heap_model.specs.Laws.{Contains-block}
use Rattle.heap_core.specs.Stored.{AreStored}
use Rattle.heap_core.specs.Table.{IsFirstPast, IsTable, NonePast, blocks_of, is_marked, is_unmarked, is_occupied}
use Rattle.heap_model.specs.declared.block.Block.{Block}
use Rattle.heap_core.specs.declared.table.Table.TheInside.{Inside}
use Rattle.heap_core.proofs.BlockLaws.{All-blocks_of}
use Rattle.heap_core.proofs.KeptLaws.{any-block}
use Rattle.heap_core.proofs.LateLaws.{get_or-either, length-either}
use Rattle.heap_core.proofs.StoredLaws.{get_or-lengths_of, length_in-none, length_in-start, not_taken_ends}
use Rattle.heap_core.specs.Stored.{lengths_of}
use Rattle.tag_memory.specs.Tags.{is_set_for}

-- ---- in the table

-- No block reaches past a free granule, nor past one at which a block starts.
pub ends_at_free : (t : Inside) → AreStored t → (k j : ℕ) → is_set_for t.rows.free k ≡ true → j < k
    → j + get_or (lengths_of t.rows.starts.items t.lengths.items) j 0 ≤ k
ends_at_free t stored k j free lt =
    let taken = is_occupied k (lengths_of t.rows.starts.items t.lengths.items) in
    let parts = and_parts (nat_lt k (length t.lengths.items)) (not taken) (sym (stored.free k) ∙ free) in
    not_taken_ends (lengths_of t.rows.starts.items t.lengths.items) k j (not-true taken parts.1) (omega arith)

-- A block that starts there has some granules.
pub some_at_start : (t : Inside) → AreStored t → (k : ℕ) → is_set_for t.rows.starts.items k ≡ true → 0 < get_or (lengths_of t.rows.starts.items t.lengths.items) k 0
some_at_start t stored k is =
    omega (arith, get_or-lengths_of t.rows.starts.items t.lengths.items k, length_in-start t.rows.starts.items t.lengths.items k is, stored.some k is)

-- Where none starts there is no length.
pub none_at_no_start : (t : Inside) → (k : ℕ) → is_set_for t.rows.starts.items k ≡ false → get_or (lengths_of t.rows.starts.items t.lengths.items) k 0 ≡ 0
none_at_no_start t k is = get_or-lengths_of t.rows.starts.items t.lengths.items k ∙ length_in-none t.rows.starts.items t.lengths.items k is

-- No block that starts before granule p reaches past granule g, and none starts between them.
pub record IsReachingStart (lengths : List ℕ) (g p : ℕ) : Type 0 where
  pub within : p ≤ g
  pub before : (k : ℕ) → k < p → k + get_or lengths k 0 ≤ g
  pub last : (k : ℕ) → p < k → k ≤ g → get_or lengths k 0 ≡ 0

-- The last start up to a granule is such a one, and where there is none, the granule itself.
pub IsReachingStart-last : (t : Inside) → AreStored t → (g : ℕ) (found : Option ℕ)
    → ((j k : ℕ) → j < k → 0 < get_or (lengths_of t.rows.starts.items t.lengths.items) k 0 → j + get_or (lengths_of t.rows.starts.items t.lengths.items) j 0 ≤ k)
    → MatchOption found ((k : ℕ) → k ≤ g → is_set_for t.rows.starts.items k ≡ false)
    (λ p. (p ≤ g) × (is_set_for t.rows.starts.items p ≡ true) × ((k : ℕ) → p < k → k ≤ g → is_set_for t.rows.starts.items k ≡ false))
    → IsReachingStart (lengths_of t.rows.starts.items t.lengths.items) g (unwrap_or found g)
IsReachingStart-last t stored g None apart none = record {
  within = omega arith;
  before = λ k lt. omega (arith, none_at_no_start t k (none k (omega arith)));
  last = λ k more le. absurd (omega arith);
}
IsReachingStart-last t stored g (Some p) apart last = record {
  within = last.0;
  before = λ k lt. omega (arith, apart k p lt (some_at_start t stored p last.1), last.0);
  last = λ k more le. none_at_no_start t k (last.2 k more le);
}

-- ---- in the list of its blocks

module _ (keeps : Bool → Bool) (base : ℕ) (lengths : List ℕ) (marks : List Bool) (first end : ℕ) where
  -- Where no block of the table has any of the granules, none of the list shares an address with them.
  pub none_over : (from to : ℕ) → from ≡ base + 16 * first → to ≡ base + 16 * end → NonePast keeps lengths marks first end → first < end
      → All (IsApart (from, to - from)) (blocks_of keeps base 0 lengths marks)
  none_over from to from_is to_is none some =
      All-blocks_of (IsApart (from, to - from)) keeps base 0 lengths marks false
      (λ k start at lt is kept. elim (cases_lt k end) [
        | inl before ↦ elim (cases_lt first (k + get_or lengths k 0)) [
          | inl reaches ↦ absurd (none k before (record { some = is; kept = kept; past = reaches }))
          | inr ends ↦ inr (omega arith)
        ]
        | inr behind ↦ inl (omega arith)
      ])

  -- The first block of the table that has some is the first of the list.
  pub first_before : (p : ℕ) → IsFirstPast keeps lengths marks first p → (block : Block) → block.base ≡ base + 16 * p
      → All (λ b. start_of b < block.base → end_of b ≤ base + 16 * first) (blocks_of keeps base 0 lengths marks)
  first_before p is block at =
      All-blocks_of (λ b. start_of b < block.base → end_of b ≤ base + 16 * first) keeps base 0 lengths marks false
      (λ k start start_is lt some kept before. elim (cases_lt first (k + get_or lengths k 0)) [
        | inl reaches ↦ absurd (is.least k (omega arith) (record { some = some; kept = kept; past = reaches }))
        | inr ends ↦ omega arith
      ])

-- The block at granule p is one of the list.
pub Contains-at : (keeps : Bool → Bool) (base : ℕ) (lengths : List ℕ) (marks : List Bool) (p : ℕ) {block : Block} → length marks ≡ length lengths → p < length lengths
    → 0 < get_or lengths p 0 → keeps (get_or marks p false) ≡ true → block.base ≡ base + 16 * p → block.top ≡ base + 16 * p + 16 * get_or lengths p 0
    → Contains (blocks_of keeps base 0 lengths marks) (block.base, block.top - block.base)
Contains-at keeps base lengths marks p {block} same lt some kept at top =
    let here : has_bounds block.base block.top (base + 16 * p, 16 * get_or lengths p 0) ≡ true =
    and_from (base + 16 * p == block.base) (base + 16 * p + 16 * get_or lengths p 0 == block.top) (eq-eqb (base + 16 * p) block.base (sym at)) (eq-eqb (base + 16 * p + 16 * get_or lengths p 0) block.top (sym top)) in
    Contains-block block.base block.top (blocks_of keeps base 0 lengths marks)
    (any-block (has_bounds block.base block.top) keeps base 0 lengths marks false p same (omega arith) lt some kept here)

-- ---- in the heap

pub live_first : {base : ℕ} {lengths : List ℕ} {marks : List Bool} (lates : List Bool) {first : ℕ} (end : ℕ) {p : ℕ} {block : Block} → IsTable base lengths marks → end ≤ length lengths
    → p < end → IsFirstPast is_unmarked lengths (either_mark marks lates) first p → block.base ≡ base + 16 * p → block.top ≡ base + 16 * p + 16 * get_or lengths p 0
    → IsFirstOver (blocks_of is_unmarked base 0 lengths (either_mark marks lates)) (base + 16 * first) (base + 16 * end) block
live_first {base} {lengths} {marks} lates {first} end {p} {block} table within before is at top = record {
  there = Contains-at is_unmarked base lengths (either_mark marks lates) p (length-either marks lates ∙ table.same) (omega arith) is.reaches.some is.reaches.kept at top;
  over = (omega arith, omega (arith, is.reaches.past));
  first = first_before is_unmarked base lengths (either_mark marks lates) first end p is block at;
}

-- A mark of either kind is one of both.
module _ (lengths : List ℕ) (marks lates : List Bool) (first end : ℕ) (same : length lates ≡ length marks) where
  none_due : NonePast is_marked lengths (either_mark marks lates) first end → NonePast is_marked lengths marks first end
  none_due none k lt reaches =
      none k lt (record { some = reaches.some; kept = get_or-either marks lates k same ∙ ap (λ b. b || get_or lates k false) reaches.kept; past = reaches.past })

  none_late : NonePast is_marked lengths (either_mark marks lates) first end → NonePast is_marked lengths lates first end
  none_late none k lt reaches =
      none k lt (record { some = reaches.some; kept = get_or-either marks lates k same ∙ or_right (get_or marks k false) (get_or lates k false) reaches.kept; past = reaches.past }) where
        or_right : (a b : Bool) → b ≡ true → (a || b) ≡ true
        or_right true b is = refl
        or_right false b is = is

pub due_none : {base : ℕ} {lengths : List ℕ} {marks lates : List Bool} {is_open : Bool} (first end : ℕ) → IsTable base lengths marks → AreLate lengths marks lates is_open
    → (from to : ℕ) → from ≡ base + 16 * first → to ≡ base + 16 * end → NonePast is_marked lengths (either_mark marks lates) first end → first < end
    → All (IsApart (from, to - from)) ((heap_state base lengths marks lates is_open).waiting ++ (heap_state base lengths marks lates is_open).painted)
due_none {base} {lengths} {marks} {lates} {is_open = true} first end table late from to from_is to_is none some =
    All-append (IsApart (from, to - from)) (blocks_of is_marked base 0 lengths lates) (blocks_of is_marked base 0 lengths marks)
    (none_over is_marked base lengths lates first end from to from_is to_is (none_late lengths marks lates first end (late.same ∙ sym table.same) none) some)
    (none_over is_marked base lengths marks first end from to from_is to_is (none_due lengths marks lates first end (late.same ∙ sym table.same) none) some)
due_none {base} {lengths} {marks} {lates} {is_open = false} first end table late from to from_is to_is none some =
    All-append (IsApart (from, to - from)) (blocks_of is_marked base 0 lengths marks) []
    (none_over is_marked base lengths marks first end from to from_is to_is (none_due lengths marks lates first end (late.same ∙ sym table.same) none) some)
    (All-nil (IsApart (from, to - from)))

-- What starts before the first of either kind ends before the granules.
module _ (base : ℕ) (lengths : List ℕ) (marks lates : List Bool) (first p : ℕ) (same : length lates ≡ length marks)
    (is : IsFirstPast is_marked lengths (either_mark marks lates) first p) (block : Block) (at : block.base ≡ base + 16 * p) where
  before_due : All (λ b. start_of b < block.base → end_of b ≤ base + 16 * first) (blocks_of is_marked base 0 lengths marks)
  before_due = All-blocks_of (λ b. start_of b < block.base → end_of b ≤ base + 16 * first) is_marked base 0 lengths marks false
      (λ k start start_is lt some kept before. elim (cases_lt first (k + get_or lengths k 0)) [
        | inl reaches ↦ absurd (none_due lengths marks lates first p same is.least k (omega arith) (record { some = some; kept = kept; past = reaches }))
        | inr ends ↦ omega arith
      ])

  before_late : All (λ b. start_of b < block.base → end_of b ≤ base + 16 * first) (blocks_of is_marked base 0 lengths lates)
  before_late = All-blocks_of (λ b. start_of b < block.base → end_of b ≤ base + 16 * first) is_marked base 0 lengths lates false
      (λ k start start_is lt some kept before. elim (cases_lt first (k + get_or lengths k 0)) [
        | inl reaches ↦ absurd (none_late lengths marks lates first p same is.least k (omega arith) (record { some = some; kept = kept; past = reaches }))
        | inr ends ↦ omega arith
      ])

pub due_first : {base : ℕ} {lengths : List ℕ} {marks lates : List Bool} {is_open : Bool} {first : ℕ} (end : ℕ) {p : ℕ} {block : Block} → IsTable base lengths marks → AreLate lengths marks lates is_open
    → end ≤ length lengths → p < end → IsFirstPast is_marked lengths (either_mark marks lates) first p → block.base ≡ base + 16 * p → block.top ≡ base + 16 * p + 16 * get_or lengths p 0
    → IsFirstOver ((heap_state base lengths marks lates is_open).waiting ++ (heap_state base lengths marks lates is_open).painted) (base + 16 * first) (base + 16 * end) block
due_first {base} {lengths} {marks} {lates} {is_open = true} {first} end {p} {block} table late within before is at top =
    let same = late.same ∙ sym table.same in
    let due = blocks_of is_marked base 0 lengths marks in
    let lately = blocks_of is_marked base 0 lengths lates in
    record {
      there = elim (or_cases (get_or marks p false) (get_or lates p false) (sym (get_or-either marks lates p same) ∙ is.reaches.kept)) [
        | inl marked ↦ Contains-append_right lately due _ (Contains-at is_marked base lengths marks p table.same (omega arith) is.reaches.some marked at top)
        | inr was_late ↦ Contains-append_left lately due _ (Contains-at is_marked base lengths lates p late.same (omega arith) is.reaches.some was_late at top)
      ];
      over = (omega arith, omega (arith, is.reaches.past));
      first = All-append (λ b. start_of b < block.base → end_of b ≤ base + 16 * first) lately due (before_late base lengths marks lates first p same is block at) (before_due base lengths marks lates first p same is block at);
    }
due_first {base} {lengths} {marks} {lates} {is_open = false} {first} end {p} {block} table late within before is at top =
    let same = late.same ∙ sym table.same in
    let due = blocks_of is_marked base 0 lengths marks in
    record {
      there = elim (or_cases (get_or marks p false) (get_or lates p false) (sym (get_or-either marks lates p same) ∙ is.reaches.kept)) [
        | inl marked ↦ Contains-append_left due [] _ (Contains-at is_marked base lengths marks p table.same (omega arith) is.reaches.some marked at top)
        | inr was_late ↦ absurd (true≢false (sym was_late ∙ late.closed refl p))
      ];
      over = (omega arith, omega (arith, is.reaches.past));
      first = All-append (λ b. start_of b < block.base → end_of b ≤ base + 16 * first) due [] (before_due base lengths marks lates first p same is block at) (All-nil (λ b. start_of b < block.base → end_of b ≤ base + 16 * first));
    }
