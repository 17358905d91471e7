-- The blocks of a table whose marks pass a test, as lengths and as a list.
use Rattle.std.proofs.Common.{◌≡◌, ◌<◌, ◌≤◌, ◌+◌, ◌*◌, inl, inr, nat_lt, ◌&&◌, not, ℕ, zero, suc, Bool, true, false, cond, List, [], ◌∷◌, length, get_or, replicate, refl, sym, ap, ◌∙◌, subst, arith}
use Rattle.std.proofs.lemmas.Bool.{and_from, cases_Bool, cases_lt, lt-ltb, true≢false}
use Rattle.std.proofs.lemmas.List.{ext_get_or, length-replicate}
use Rattle.std.proofs.lemmas.List.Folds.{list_any_none}
use Rattle.std.specs.List.{list_any}
use Rattle.heap_model.specs.Blocks.{Span, has_address, lies_in}
use Rattle.heap_model.specs.Laws.{has_address-after, has_address-before, has_address-within}
use Rattle.heap_core.specs.Table.{IsTable, blocks_of, is_marked, is_unmarked, is_occupied, kept_lengths}
use Rattle.heap_core.proofs.BlockLaws.{All-blocks_of}
use Rattle.heap_core.proofs.RunLaws.{is_taken_by, is_taken_within}

-- ---- the lengths

pub length-kept_lengths : (keeps : Bool → Bool) (lengths : List ℕ) (marks : List Bool) → length marks ≡ length lengths
    → length (kept_lengths keeps lengths marks) ≡ length lengths
length-kept_lengths keeps [] marks same = refl
length-kept_lengths keeps (n ∷ lengths) [] same = absurd (omega arith)
length-kept_lengths keeps (n ∷ lengths) (mark ∷ marks) same = ap suc (length-kept_lengths keeps lengths marks (omega arith))

pub get_or-kept_lengths : (keeps : Bool → Bool) (lengths : List ℕ) (marks : List Bool) (k : ℕ) (d : Bool) → length marks ≡ length lengths → k < length lengths
    → get_or (kept_lengths keeps lengths marks) k 0 ≡ cond (keeps (get_or marks k d)) (get_or lengths k 0) 0
get_or-kept_lengths keeps [] marks k d same lt = absurd (omega arith)
get_or-kept_lengths keeps (n ∷ lengths) [] k d same lt = absurd (omega arith)
get_or-kept_lengths keeps (n ∷ lengths) (mark ∷ marks) zero d same lt = refl
get_or-kept_lengths keeps (n ∷ lengths) (mark ∷ marks) (suc k) d same lt = get_or-kept_lengths keeps lengths marks k d (omega arith) (omega arith)

pub get_or-kept : (keeps : Bool → Bool) (lengths : List ℕ) (marks : List Bool) (k : ℕ) (d : Bool) → length marks ≡ length lengths → k < length lengths
    → keeps (get_or marks k d) ≡ true → get_or (kept_lengths keeps lengths marks) k 0 ≡ get_or lengths k 0
get_or-kept keeps lengths marks k d same lt kept =
    get_or-kept_lengths keeps lengths marks k d same lt ∙ ap (λ b. cond b (get_or lengths k 0) 0) kept

pub get_or-not_kept : (keeps : Bool → Bool) (lengths : List ℕ) (marks : List Bool) (k : ℕ) (d : Bool) → length marks ≡ length lengths → k < length lengths
    → keeps (get_or marks k d) ≡ false → get_or (kept_lengths keeps lengths marks) k 0 ≡ 0
get_or-not_kept keeps lengths marks k d same lt other =
    get_or-kept_lengths keeps lengths marks k d same lt ∙ ap (λ b. cond b (get_or lengths k 0) 0) other

pub kept-le : (keeps : Bool → Bool) (lengths : List ℕ) (marks : List Bool) (k : ℕ) → get_or (kept_lengths keeps lengths marks) k 0 ≤ get_or lengths k 0
kept-le keeps [] marks k = omega arith
kept-le keeps (n ∷ lengths) [] k = omega arith
kept-le keeps (n ∷ lengths) (mark ∷ marks) zero = elim (cases_Bool (keeps mark)) [ inl is ↦ rw is (omega arith) | inr is ↦ rw is (omega arith) ]
kept-le keeps (n ∷ lengths) (mark ∷ marks) (suc k) = kept-le keeps lengths marks k

-- A block of the kept lengths is one of the table, with its mark.
pub kept_block : (keeps : Bool → Bool) (lengths : List ℕ) (marks : List Bool) (k : ℕ) (d : Bool) → length marks ≡ length lengths → k < length lengths
    → 0 < get_or (kept_lengths keeps lengths marks) k 0 → keeps (get_or marks k d) ≡ true
kept_block keeps lengths marks k d same lt some =
    elim (cases_Bool (keeps (get_or marks k d))) [
      | inl kept ↦ kept
      | inr other ↦ absurd (omega (arith, get_or-not_kept keeps lengths marks k d same lt other))
    ]

-- The lengths of the live blocks are those of the table, with 0 for the due ones.
pub kept_lengths-live : (new lengths : List ℕ) (marks : List Bool) → length marks ≡ length lengths → length new ≡ length lengths
    → ((k : ℕ) → k < length lengths → get_or marks k false ≡ true → get_or new k 0 ≡ 0)
    → ((k : ℕ) → k < length lengths → get_or marks k false ≡ false → get_or new k 0 ≡ get_or lengths k 0)
    → new ≡ kept_lengths is_unmarked lengths marks
kept_lengths-live new lengths marks same long due live =
    ext_get_or 0 new (kept_lengths is_unmarked lengths marks) (long ∙ sym (length-kept_lengths is_unmarked lengths marks same))
    (λ k lt. let inside : k < length lengths = omega (arith, lt, long) in
    elim (cases_Bool (get_or marks k false)) [
      | inl is ↦ due k inside is ∙ sym (get_or-not_kept is_unmarked lengths marks k false same inside (ap not is))
      | inr is ↦ live k inside is ∙ sym (get_or-kept is_unmarked lengths marks k false same inside (ap not is))
    ])

-- ---- the addresses

-- What passes at a block of the table passes at one in the list.
pub any-block : (test : Span → Bool) (keeps : Bool → Bool) (base i : ℕ) (lengths : List ℕ) (marks : List Bool) (d : Bool) (k : ℕ) {start : ℕ}
    → length marks ≡ length lengths → start ≡ base + 16 * (i + k) → k < length lengths → 0 < get_or lengths k 0
    → keeps (get_or marks k d) ≡ true → test (start, 16 * get_or lengths k 0) ≡ true → list_any test (blocks_of keeps base i lengths marks) ≡ true
any-block test keeps base i [] marks d k same at lt some kept passes = absurd (omega arith)
any-block test keeps base i (n ∷ lengths) [] d k same at lt some kept passes = absurd (omega arith)
any-block test keeps base i (n ∷ lengths) (mark ∷ marks) d zero {start} same at lt some kept passes =
    let is : (nat_lt 0 n && keeps mark) ≡ true = and_from (nat_lt 0 n) (keeps mark) (lt-ltb 0 n some) kept in
    let first : start ≡ base + 16 * i = omega arith in
    let here : test (base + 16 * i, 16 * n) ≡ true = subst (λ (x : ℕ). test (x, 16 * n) ≡ true) first passes in
    rw (is, here) refl
any-block test keeps base i (n ∷ lengths) (mark ∷ marks) d (suc k) same at lt some kept passes =
    let rest = any-block test keeps base (i + 1) lengths marks d k (omega arith) (omega arith) (omega arith) some kept passes in
    elim (cases_Bool (nat_lt 0 n && keeps mark)) [
      | inl is ↦ rw (is, rest) (grind arith)
      | inr is ↦ rw is rest
    ]

-- What passes at no block of the table passes at none in the list.
pub any-no_block : (test : Span → Bool) (keeps : Bool → Bool) (base : ℕ) (lengths : List ℕ) (marks : List Bool) (d : Bool)
    → ((k start : ℕ) → start ≡ base + 16 * (0 + k) → k < length lengths → 0 < get_or lengths k 0
    → keeps (get_or marks k d) ≡ true → test (start, 16 * get_or lengths k 0) ≡ false)
    → list_any test (blocks_of keeps base 0 lengths marks) ≡ false
any-no_block test keeps base lengths marks d each =
    list_any_none test (blocks_of keeps base 0 lengths marks)
    (All-blocks_of (λ block. test block ≡ false) keeps base 0 lengths marks d each)

-- An address lies in one of the blocks exactly where its granule is taken by one of them.
pub lies_in-blocks_of : (keeps : Bool → Bool) (base a k : ℕ) (lengths : List ℕ) (marks : List Bool) → length marks ≡ length lengths
    → base + 16 * k ≤ a → a < base + 16 * k + 16 → k < length lengths
    → lies_in (blocks_of keeps base 0 lengths marks) a ≡ is_occupied k (kept_lengths keeps lengths marks)
lies_in-blocks_of keeps base a k lengths marks same from before lt =
    let kept = kept_lengths keeps lengths marks in
    let long : length (kept_lengths keeps lengths marks) ≡ length lengths = length-kept_lengths keeps lengths marks same in
    elim (cases_Bool (is_occupied k kept)) [
      | inl taken ↦
          let by = is_taken_by kept k taken in
          let inside : by.0 < length lengths = omega (arith, by.1.0) in
          let is = kept_block keeps lengths marks by.0 true same inside (omega (arith, by.1.0, by.1.1)) in
          let n_is = get_or-kept keeps lengths marks by.0 true same inside is in
          let n = get_or lengths by.0 0 in
          let start = base + 16 * by.0 in
          let here = has_address-within a (start, 16 * n) (omega (arith, by.1.0)) (omega (arith, by.1.1, n_is)) in
          rw taken (any-block (has_address a) keeps base 0 lengths marks true by.0 same (omega arith) inside (omega (arith, by.1.0, by.1.1, n_is)) is here)
      | inr free ↦
          rw free (any-no_block (has_address a) keeps base lengths marks true
          (λ j start at j_lt some is.
          let n_is = get_or-kept keeps lengths marks j true same j_lt is in
          elim (cases_lt k j) [
            | inl less ↦ has_address-before a (start, 16 * get_or lengths j 0) (omega arith)
            | inr le ↦ elim (cases_lt k (j + get_or lengths j 0)) [
              | inl reaches ↦
                  let taken = is_taken_within kept j k le (omega (arith, n_is)) in
                  absurd (true≢false (sym taken ∙ free))
              | inr past ↦ has_address-after a (start, 16 * get_or lengths j 0) (omega arith)
            ]
          ]))
    ]

-- ---- the table of the live blocks alone

-- It has no due blocks.
pub held_blocks-kept : (base i : ℕ) (lengths : List ℕ) (marks : List Bool) → length marks ≡ length lengths
    → blocks_of is_marked base i (kept_lengths is_unmarked lengths marks) (replicate (length lengths) false) ≡ []
held_blocks-kept base i [] marks same = refl
held_blocks-kept base i (n ∷ lengths) [] same = absurd (omega arith)
held_blocks-kept base i (n ∷ lengths) (mark ∷ marks) same =
    elim (cases_Bool mark) [
      | inl is ↦ rw (is, held_blocks-kept base (i + 1) lengths marks (omega arith)) refl
      | inr is ↦ rw (is, held_blocks-kept base (i + 1) lengths marks (omega arith)) (grind arith)
    ]

pub IsTable-kept : {base : ℕ} {lengths : List ℕ} {marks : List Bool} → IsTable base lengths marks
    → IsTable base (kept_lengths is_unmarked lengths marks) (replicate (length lengths) false)
IsTable-kept {lengths} {marks} table =
    let long : length (kept_lengths is_unmarked lengths marks) ≡ length lengths = length-kept_lengths is_unmarked lengths marks table.same in
    record {
      same = length-replicate (length lengths) false ∙ sym long;
      pages = table.pages;
      count = long ∙ table.count;
      size = table.size;
      place = table.place;
      inside = λ j lt. omega (arith, table.inside j (omega arith), kept-le is_unmarked lengths marks j);
      apart = λ j k lt some. omega (arith, table.apart j k lt (omega (arith, kept-le is_unmarked lengths marks k)), kept-le is_unmarked lengths marks j);
    }
