-- The granules that the blocks of a table take, and the runs that they leave free.
use Rattle.std.proofs.Common.{◌≡◌, ◌<◌, ◌≤◌, ◌+◌, ◌*◌, ◌⊎◌, inl, inr, nat_lt, ◌||◌, ℕ, zero, suc, Bool, true, false, List, [], ◌∷◌, length, get_or, set, length-set, refl, sym, ap, ◌∙◌, arith}
use Rattle.std.proofs.lemmas.Bool.{cases_Bool, cases_eq, cases_lt, lt-ltb, ltb-true, or_cases, true≢false}
use Rattle.std.proofs.lemmas.Bool.Decides.{nat_tests}
use Rattle.std.proofs.lemmas.List.{get_or-set_other, get_or-set_same}
use Rattle.heap_model.specs.Blocks.{blocks_with}
use Rattle.heap_core.specs.Table.{IsGap, IsTable, blocks_of, is_marked, is_unmarked, is_occupied}
use Rattle.heap_core.proofs.BlockLaws.{blocks_of-set, blocks_of-set_other}

-- ---- the granules taken

-- The granules of a block are taken.
pub is_taken_within : (lengths : List ℕ) (j k : ℕ) → j ≤ k → k < j + get_or lengths j 0 → is_occupied k lengths ≡ true
is_taken_within [] j k le lt = absurd (omega arith)
is_taken_within (n ∷ lengths) zero zero le lt = lt-ltb 0 n (omega arith)
is_taken_within (n ∷ lengths) zero (suc k) le lt = rw (lt-ltb (suc k) n (omega arith)) refl
is_taken_within (n ∷ lengths) (suc j) zero le lt = absurd (omega arith)
is_taken_within (n ∷ lengths) (suc j) (suc k) le lt = rw (is_taken_within lengths j k (omega arith) (omega arith)) (grind arith)

-- And no others.
pub is_taken_by : (lengths : List ℕ) (k : ℕ) → is_occupied k lengths ≡ true → (j : ℕ) × ((j ≤ k) × (k < j + get_or lengths j 0))
is_taken_by [] k is = absurd (true≢false (sym is))
is_taken_by (n ∷ lengths) zero is = (0, (omega arith, omega (arith, ltb-true 0 n is)))
is_taken_by (n ∷ lengths) (suc k) is =
    elim (or_cases (nat_lt (suc k) n) (is_occupied k lengths) is) [
      | inl here ↦ (0, (omega arith, omega (arith, ltb-true (suc k) n here)))
      | inr later ↦ (let by = is_taken_by lengths k later in (suc by.0, (omega (arith, by.1.0), omega (arith, by.1.1))))
    ]

-- A granule into which no block reaches is in none.
pub is_taken_none : (lengths : List ℕ) (k : ℕ) → ((j : ℕ) → j ≤ k → j + get_or lengths j 0 ≤ k) → is_occupied k lengths ≡ false
is_taken_none lengths k ends =
    elim (cases_Bool (is_occupied k lengths)) [
      | inl taken ↦ (let by = is_taken_by lengths k taken in absurd (omega (arith, by.1.0, by.1.1, ends by.0 by.1.0)))
      | inr free ↦ free
    ]

-- A block at a granule where none started takes no granule outside it.
pub is_occupied-set_other : (lengths : List ℕ) (p n k : ℕ) → get_or lengths p 0 ≡ 0 → (k < p) ⊎ (p + n ≤ k)
    → is_occupied k (set lengths p n) ≡ is_occupied k lengths
is_occupied-set_other [] p n k none other = refl
is_occupied-set_other (m ∷ lengths) zero n zero none other = rw none (grind (arith, nat_tests))
is_occupied-set_other (m ∷ lengths) zero n (suc k) none other = rw none (grind (arith, nat_tests))
is_occupied-set_other (m ∷ lengths) (suc p) n zero none other = refl
is_occupied-set_other (m ∷ lengths) (suc p) n (suc k) none other =
    let outside : (k < p) ⊎ (p + n ≤ k) = elim other [ inl lt ↦ inl (omega arith) | inr le ↦ inr (omega arith) ] in
    ap (λ later. nat_lt (suc k) m || later) (is_occupied-set_other lengths p n k none outside)

-- ---- free runs

-- A block shares no granule with a free run.
pub run_is_apart : {lengths : List ℕ} {p n : ℕ} (k : ℕ) → IsGap lengths p n → 0 < get_or lengths k 0
    → (k + get_or lengths k 0 ≤ p) ⊎ (p + n ≤ k)
run_is_apart {lengths} {p} {n} k run some =
    elim (cases_lt p (k + get_or lengths k 0)) [
      | inl reaches ↦ elim (cases_lt k (p + n)) [
        | inl before ↦ elim (cases_lt k p) [
          | inl less ↦
              let taken = is_taken_within lengths k p (omega arith) reaches in
              absurd (true≢false (sym taken ∙ run.free p (omega arith) (omega (arith, run.some))))
          | inr le ↦
              let taken = is_taken_within lengths k k (omega arith) (omega arith) in
              absurd (true≢false (sym taken ∙ run.free k le before))
        ]
        | inr after ↦ inr after
      ]
      | inr ends ↦ inl ends
    ]

-- No block starts in it.
pub run_is_empty : {lengths : List ℕ} {p n : ℕ} (k : ℕ) → IsGap lengths p n → p ≤ k → k < p + n → get_or lengths k 0 ≡ 0
run_is_empty {lengths} k run le lt =
    elim (cases_lt 0 (get_or lengths k 0)) [
      | inl some ↦ elim (run_is_apart k run some) [ inl before ↦ absurd (omega arith) | inr after ↦ absurd (omega arith) ]
      | inr none ↦ omega arith
    ]

-- None from before reaches into it.
run_is_clear : {lengths : List ℕ} {p n : ℕ} (j : ℕ) → IsGap lengths p n → j < p → j + get_or lengths j 0 ≤ p
run_is_clear {lengths} j run lt =
    elim (cases_lt 0 (get_or lengths j 0)) [
      | inl some ↦ elim (run_is_apart j run some) [ inl before ↦ before | inr after ↦ absurd (omega (arith, run.some)) ]
      | inr none ↦ omega arith
    ]

-- ---- a block at a free run

inside-set : {lengths : List ℕ} {p n : ℕ} (j : ℕ) → ((j : ℕ) → j < length lengths → j + get_or lengths j 0 ≤ length lengths)
    → IsGap lengths p n → j < length lengths → j + get_or (set lengths p n) j 0 ≤ length lengths
inside-set {lengths} {p} {n} j inside run lt =
    elim (cases_eq j p) [
      | inl is ↦
          let here : get_or (set lengths p n) j 0 ≡ n = rw is (get_or-set_same lengths p n 0 (omega arith)) in
          omega (arith, run.end)
      | inr is_not ↦
          let other : get_or (set lengths p n) j 0 ≡ get_or lengths j 0 = get_or-set_other lengths p j n 0 is_not in
          omega (arith, inside j lt)
    ]

apart-set : {lengths : List ℕ} {p n : ℕ} (j k : ℕ) → ((j k : ℕ) → j < k → 0 < get_or lengths k 0 → j + get_or lengths j 0 ≤ k)
    → IsGap lengths p n → j < k → 0 < get_or (set lengths p n) k 0 → j + get_or (set lengths p n) j 0 ≤ k
apart-set {lengths} {p} {n} j k apart run lt some =
    elim (cases_eq k p) [
      | inl is ↦
          let other : get_or (set lengths p n) j 0 ≡ get_or lengths j 0 = get_or-set_other lengths p j n 0 (λ same. omega arith) in
          omega (arith, run_is_clear j run (omega arith))
      | inr is_not ↦
          let there : get_or (set lengths p n) k 0 ≡ get_or lengths k 0 = get_or-set_other lengths p k n 0 is_not in
          elim (cases_eq j p) [
            | inl is ↦
                let here : get_or (set lengths p n) j 0 ≡ n = rw is (get_or-set_same lengths p n 0 (omega (arith, run.end, run.some))) in
                elim (run_is_apart k run (omega arith)) [ inl before ↦ absurd (omega arith) | inr after ↦ omega arith ]
            | inr j_is_not ↦
                let other : get_or (set lengths p n) j 0 ≡ get_or lengths j 0 = get_or-set_other lengths p j n 0 j_is_not in
                omega (arith, apart j k lt (omega arith))
          ]
    ]

pub IsTable-set : {base : ℕ} {lengths : List ℕ} {marks : List Bool} {p n : ℕ} → IsTable base lengths marks → IsGap lengths p n
    → IsTable base (set lengths p n) (set marks p false)
IsTable-set {lengths} {marks} {p} {n} table run =
    let long : length (set lengths p n) ≡ length lengths = length-set lengths p n in
    record {
      same = length-set marks p false ∙ (table.same ∙ sym long);
      pages = table.pages;
      count = long ∙ table.count;
      size = table.size;
      place = table.place;
      inside = λ j lt. rw long (inside-set j table.inside run (omega arith));
      apart = λ j k lt some. apart-set j k table.apart run lt some;
    }

-- One more block is live.
pub live_blocks-set : (base : ℕ) {lengths : List ℕ} (marks : List Bool) {p n : ℕ} → length marks ≡ length lengths → IsGap lengths p n
    → blocks_of is_unmarked base 0 (set lengths p n) (set marks p false)
    ≡ blocks_with (base + 16 * p, 16 * n) (blocks_of is_unmarked base 0 lengths marks)
live_blocks-set base {lengths} marks {p} {n} same run =
    let none = run_is_empty p run (omega arith) (omega (arith, run.some)) in
    blocks_of-set is_unmarked base 0 lengths marks true p n (omega (arith, run.end, run.some)) same (rw none refl) run.some refl (omega arith)

-- The same blocks are due.
pub held_blocks-set : (base : ℕ) {lengths : List ℕ} (marks : List Bool) {p n : ℕ} → IsGap lengths p n
    → blocks_of is_marked base 0 (set lengths p n) (set marks p false) ≡ blocks_of is_marked base 0 lengths marks
held_blocks-set base {lengths} marks {p} {n} run =
    let none = run_is_empty p run (omega arith) (omega (arith, run.some)) in
    blocks_of-set_other is_marked base 0 lengths marks p n false none refl
