-- The bytes of a table's blocks, which are at most those of its granules.
use Rattle.std.proofs.Common.{◌≡◌, ◌<◌, ◌≤◌, ◌+◌, ◌-◌, ◌*◌, ◌⊎◌, inl, inr, nat_lt, ℕ, suc, Bool, List, [], ◌∷◌, length, get_or, sum, arith}
use Rattle.std.proofs.lemmas.Bool.{cases_Bool, cases_lt, le-ltb, lt-ltb}
use Rattle.std.proofs.lemmas.List.Sums.{sum_by-cons}
use Rattle.heap_model.specs.Blocks.{Span, blocks_with, bytes_in, length_of, start_of}
use Rattle.heap_core.specs.Table.{IsTable, blocks_of, is_marked, is_unmarked}

pub bytes_in-cons : (block : Span) (blocks : List Span) → bytes_in (block ∷ blocks) ≡ length_of block + bytes_in blocks
bytes_in-cons block blocks = sum_by-cons length_of block blocks

pub bytes_in-blocks_with : (block : Span) (blocks : List Span) → bytes_in (blocks_with block blocks) ≡ length_of block + bytes_in blocks
bytes_in-blocks_with block [] = bytes_in-cons block []
bytes_in-blocks_with block (b ∷ blocks) =
    elim (cases_Bool (nat_lt (start_of block) (start_of b))) [
      | inl is ↦ rw is (bytes_in-cons block (b ∷ blocks))
      | inr is ↦ rw is (omega (arith, bytes_in-cons b (blocks_with block blocks), bytes_in-blocks_with block blocks, bytes_in-cons b blocks))
    ]

-- Each block is live or held.
pub bytes_of_both : (base i : ℕ) (lengths : List ℕ) (marks : List Bool) → length marks ≡ length lengths
    → bytes_in (blocks_of is_unmarked base i lengths marks) + bytes_in (blocks_of is_marked base i lengths marks) ≡ 16 * sum lengths
bytes_of_both base i [] marks same = omega arith
bytes_of_both base i (n ∷ lengths) [] same = absurd (omega arith)
bytes_of_both base i (n ∷ lengths) (mark ∷ marks) same =
    let live = blocks_of is_unmarked base (i + 1) lengths marks in
    let held = blocks_of is_marked base (i + 1) lengths marks in
    let rest = bytes_of_both base (i + 1) lengths marks (omega arith) in
    let all : sum (n ∷ lengths) ≡ n + sum lengths = sum_by-cons (λ x. x) n lengths in
    elim (cases_lt 0 n) [
      | inl some ↦ elim (cases_Bool mark) [
        | inl is ↦ rw (lt-ltb 0 n some, is) (omega (arith, bytes_in-cons (base + 16 * i, 16 * n) held))
        | inr is ↦ rw (lt-ltb 0 n some, is) (omega (arith, bytes_in-cons (base + 16 * i, 16 * n) live))
      ]
      | inr none ↦ rw (le-ltb 0 n none) (omega arith)
    ]

-- The lengths of blocks that do not reach into one another add up to no more than the granules, of which
-- the first `taken` lie in an earlier block.
sum_fits : (taken : ℕ) (lengths : List ℕ) → ((k : ℕ) → k < taken → get_or lengths k 0 ≡ 0)
    → ((j : ℕ) → j < length lengths → j + get_or lengths j 0 ≤ length lengths)
    → ((j k : ℕ) → j < k → 0 < get_or lengths k 0 → j + get_or lengths j 0 ≤ k)
    → taken ≤ length lengths → sum lengths + taken ≤ length lengths
sum_fits taken [] none inside apart le = omega arith
sum_fits taken (n ∷ lengths) none inside apart le =
    let one : (taken ≡ 0) ⊎ (n ≡ 0) = elim (cases_lt 0 taken) [ inl some ↦ inr (none 0 some) | inr not_some ↦ inl (omega arith) ] in
    let here : 0 + n ≤ length (n ∷ lengths) = inside 0 (omega arith) in
    let rest_none : (k : ℕ) → k < taken + n - 1 → get_or lengths k 0 ≡ 0 =
    λ k lt. elim (cases_lt 0 (get_or lengths k 0)) [
      | inl some ↦ (let before : 0 + n ≤ suc k = apart 0 (suc k) (omega arith) some in omega (arith, none (suc k)))
      | inr empty ↦ omega arith
    ] in
    let rest = sum_fits (taken + n - 1) lengths rest_none
    (λ j lt. let h = inside (suc j) (omega arith) in omega arith)
    (λ j k lt some. let h = apart (suc j) (suc k) (omega arith) some in omega arith)
    (omega arith) in
    omega (arith, sum_by-cons (λ x. x) n lengths)

-- So do those of blocks with a mark and without together.
pub granules_fit : {base : ℕ} {lengths : List ℕ} {marks : List Bool} (live held : ℕ) → IsTable base lengths marks
    → 16 * live ≡ bytes_in (blocks_of is_unmarked base 0 lengths marks) → 16 * held ≡ bytes_in (blocks_of is_marked base 0 lengths marks)
    → live + held ≤ length lengths
granules_fit {base} {lengths} {marks} live held table live_is held_is =
    let all = sum_fits 0 lengths (λ k lt. absurd (omega arith)) table.inside table.apart (omega arith) in
    omega (arith, bytes_of_both base 0 lengths marks table.same)
