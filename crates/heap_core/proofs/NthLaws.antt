-- Held blocks by their number.
use Rattle.std.proofs.Common.{◌≡◌, ◌∙◌, ◌<◌, ◌≤◌, ◌+◌, ◌-◌, ◌*◌, ◌&&◌, inl, inr, nat_le, nat_lt, ℕ, zero, suc, Bool, true, false, cond, List, [], ◌∷◌, drop, length, get_or, take, refl, sym, ap, subst, arith}
use Rattle.std.proofs.lemmas.Bool.{and_from, and_parts, cases_Bool, cases_lt, leb-true, lt-ltb, ltb-true, true≢false}
use Rattle.std.proofs.lemmas.Bool.Decides.{nat_tests}
use Rattle.std.proofs.lemmas.List.{drop-take, get_or-drop, get_or-take, length-drop, length-take, take-take}
use Rattle.std.proofs.lemmas.List.Folds.{list_any_none}
use Rattle.std.proofs.lemmas.List.FromFn.{take-map-range_with_len}
use Rattle.std.proofs.lemmas.List.Sums.{sum_by-cons, sum_by-take-drop}
use Rattle.granule_rows.specs.Counts.{count_below, is_both}
use Rattle.granule_rows.specs.Runs.{is_within}
use Rattle.heap_model.specs.Blocks.{Span, has_address, lies_in}
use Rattle.heap_core.specs.Consistent.{heap_state}
use Rattle.heap_model.specs.Laws.{has_address-after, has_address-before, has_address-within}
use Rattle.heap_core.specs.Painting.{is_in_due}
use Rattle.heap_core.specs.Stored.{marks_of}
use Rattle.heap_core.specs.Table.{AreBlocks, IsDueStart, IsTable, blocks_of, marked_count, is_marked, is_occupied, kept_lengths}
use Rattle.heap_core.proofs.BlockLaws.{All-blocks_of}
use Rattle.heap_core.proofs.KeptLaws.{any-block, get_or-kept, kept_block, length-kept_lengths}
use Rattle.heap_core.proofs.RunLaws.{is_taken_by, is_taken_within}
use Rattle.heap_core.proofs.ShadowLaws.{due-heap_state}

-- ---- marks counted

pub count-marks_of : (starts due : List ℕ) (n : ℕ) → marked_count (marks_of starts due n) ≡ count_below (is_both starts due) n
unfolding marks_of count_below
count-marks_of starts due n = refl

pub count-take-marks_of : (starts due : List ℕ) (n p : ℕ) → p ≤ n → marked_count (take p (marks_of starts due n)) ≡ count_below (is_both starts due) p
unfolding marks_of count_below
count-take-marks_of starts due n p le = ap marked_count (take-map-range_with_len (is_both starts due) 0 n p le)

count_cons : (mark : Bool) (marks : List Bool) → marked_count (mark ∷ marks) ≡ cond mark 1 0 + marked_count marks
count_cons mark marks = sum_by-cons (λ (m : Bool). cond m 1 0) mark marks

count_yes : (mark : Bool) (marks : List Bool) → mark ≡ true → marked_count (mark ∷ marks) ≡ suc (marked_count marks)
count_yes mark marks is = let number : Bool → ℕ = λ m. cond m 1 0 in omega (arith, count_cons mark marks, ap number is)

count_no : (mark : Bool) (marks : List Bool) → mark ≡ false → marked_count (mark ∷ marks) ≡ marked_count marks
count_no mark marks is = let number : Bool → ℕ = λ m. cond m 1 0 in omega (arith, count_cons mark marks, ap number is)

no_block : (n : ℕ) (mark : Bool) → mark ≡ false → (nat_lt 0 n && is_marked mark) ≡ false
no_block n mark is = rw is (grind arith)

one_block : (n : ℕ) (mark : Bool) → mark ≡ true → 0 < n → (nat_lt 0 n && is_marked mark) ≡ true
one_block n mark is some = and_from (nat_lt 0 n) mark (lt-ltb 0 n some) is

-- There is a block for each mark.
pub length-blocks : (base i : ℕ) (lengths : List ℕ) (marks : List Bool) → length marks ≡ length lengths → AreBlocks lengths marks
    → length (blocks_of is_marked base i lengths marks) ≡ marked_count marks
length-blocks base i [] [] same some = refl
length-blocks base i [] (mark ∷ marks) same some = absurd (omega (arith, same))
length-blocks base i (n ∷ lengths) [] same some = absurd (omega (arith, same))
length-blocks base i (n ∷ lengths) (mark ∷ marks) same some =
    let rest = length-blocks base (i + 1) lengths marks (omega (arith, same)) (λ k. some (suc k)) in
    elim (cases_Bool mark) [
      | inl is ↦ rw (one_block n mark is (some 0 is)) (omega (arith, rest, count_yes mark marks is))
      | inr is ↦ rw (no_block n mark is) (omega (arith, rest, count_no mark marks is))
    ]

-- The blocks that start before granule p,
pub take-blocks : (base i : ℕ) (lengths : List ℕ) (marks : List Bool) (p : ℕ) → length marks ≡ length lengths → AreBlocks lengths marks
    → take (marked_count (take p marks)) (blocks_of is_marked base i lengths marks) ≡ blocks_of is_marked base i (take p lengths) (take p marks)
take-blocks base i lengths marks zero same some = refl
take-blocks base i [] [] (suc p) same some = refl
take-blocks base i [] (mark ∷ marks) (suc p) same some = absurd (omega (arith, same))
take-blocks base i (n ∷ lengths) [] (suc p) same some = absurd (omega (arith, same))
take-blocks base i (n ∷ lengths) (mark ∷ marks) (suc p) same some =
    let rest = take-blocks base (i + 1) lengths marks p (omega (arith, same)) (λ k. some (suc k)) in
    elim (cases_Bool mark) [
      | inl is ↦ rw (one_block n mark is (some 0 is), count_yes mark (take p marks) is) (ap (λ (blocks : List Span). (base + 16 * i, 16 * n) ∷ blocks) rest)
      | inr is ↦ rw (no_block n mark is, count_no mark (take p marks) is) rest
    ]

-- and those from it on.
pub drop-blocks : (base i : ℕ) (lengths : List ℕ) (marks : List Bool) (p : ℕ) → length marks ≡ length lengths → AreBlocks lengths marks
    → drop (marked_count (take p marks)) (blocks_of is_marked base i lengths marks) ≡ blocks_of is_marked base (i + p) (drop p lengths) (drop p marks)
drop-blocks base i lengths marks zero same some =
    let here : i ≡ i + 0 = omega arith in
    ap (λ (at : ℕ). blocks_of is_marked base at lengths marks) here
drop-blocks base i [] [] (suc p) same some = refl
drop-blocks base i [] (mark ∷ marks) (suc p) same some = absurd (omega (arith, same))
drop-blocks base i (n ∷ lengths) [] (suc p) same some = absurd (omega (arith, same))
drop-blocks base i (n ∷ lengths) (mark ∷ marks) (suc p) same some =
    let here : i + 1 + p ≡ i + suc p = omega arith in
    let rest = drop-blocks base (i + 1) lengths marks p (omega (arith, same)) (λ k. some (suc k)) ∙ ap (λ (at : ℕ). blocks_of is_marked base at (drop p lengths) (drop p marks)) here in
    elim (cases_Bool mark) [
      | inl is ↦ rw (one_block n mark is (some 0 is), count_yes mark (take p marks) is) rest
      | inr is ↦ rw (no_block n mark is, count_no mark (take p marks) is) rest
    ]

-- ---- blocks between two starts

-- No block reaches over the start of one.
pub cut_at : (base : ℕ) (lengths : List ℕ) (marks : List Bool) (n p : ℕ) → IsTable base lengths marks → AreBlocks lengths marks → IsDueStart lengths marks n p
    → (j : ℕ) → j < p → j + get_or lengths j 0 ≤ p
cut_at base lengths marks n p table some start j before = elim (cases_lt p (length lengths)) [
  | inl inside ↦ table.apart j p before (some p (start.due inside))
  | inr past ↦ omega (arith, table.inside j (omega (arith, before, start.within)), past, start.within)
]

-- The count grows past a mark.
count_past : (marks : List Bool) (p q : ℕ) → p < q → p < length marks → get_or marks p false ≡ true → marked_count (take p marks) < marked_count (take q marks)
count_past [] p q lt inside is = absurd (omega (arith, inside))
count_past (mark ∷ marks) p zero lt inside is = absurd (omega (arith, lt))
count_past (mark ∷ marks) zero (suc q) lt inside is = omega (arith, count_yes mark (take q marks) is)
count_past (mark ∷ marks) (suc p) (suc q) lt inside is = omega (arith, count_past marks p q (omega (arith, lt)) (omega (arith, inside)) is, count_cons mark (take p marks), count_cons mark (take q marks))

-- So starts stand as their numbers do.
pub start_order : (lengths : List ℕ) (marks : List Bool) (first last from to : ℕ) → length marks ≡ length lengths → IsDueStart lengths marks first from → IsDueStart lengths marks last to → first ≤ last → from ≤ to
start_order lengths marks first last from to same a b order = elim (cases_lt to from) [
  | inl past ↦
      let inside : to < length lengths = omega (arith, past, a.within) in
      absurd (omega (arith, order, a.before, b.before, count_past marks to from past (omega (arith, inside, same)) (b.due inside)))
  | inr le ↦ le
]

module _ {X : Type 0} (xs : List X) (d : X) (from to : ℕ) (order : from ≤ to) (within : to ≤ length xs) where
  part : List X
  part = take (to - from) (drop from xs)

  length-part : length (take (to - from) (drop from xs)) ≡ to - from
  length-part = length-take (to - from) (drop from xs) ∙ omega (arith, length-drop from xs, order, within)

  get_or-part : (j : ℕ) → j < to - from → get_or (take (to - from) (drop from xs)) j d ≡ get_or xs (from + j) d
  get_or-part j below = get_or-take (to - from) (drop from xs) j d below ∙ get_or-drop from xs j d

-- The due blocks between two starts are those of that part of the table.
pub blocks-part : (base : ℕ) (lengths : List ℕ) (marks : List Bool) (first last from to : ℕ) → length marks ≡ length lengths → AreBlocks lengths marks → IsDueStart lengths marks first from → IsDueStart lengths marks last to → from ≤ to
    → take (last - first) (drop first (blocks_of is_marked base 0 lengths marks)) ≡ blocks_of is_marked base from (take (to - from) (drop from lengths)) (take (to - from) (drop from marks))
blocks-part base lengths marks first last from to same some a b order =
    let dropped = drop-blocks base 0 lengths marks from same some in
    let here : 0 + from ≡ from = omega arith in
    let rest : drop first (blocks_of is_marked base 0 lengths marks) ≡ blocks_of is_marked base from (drop from lengths) (drop from marks) =
    ap (λ (n : ℕ). drop n (blocks_of is_marked base 0 lengths marks)) (sym a.before) ∙ (dropped ∙ ap (λ (at : ℕ). blocks_of is_marked base at (drop from lengths) (drop from marks)) here) in
    let split = sum_by-take-drop (λ (m : Bool). cond m 1 0) (take to marks) from in
    let head : take from (take to marks) ≡ take from marks = take-take from to marks order in
    let whole : from + (to - from) ≡ to = omega (arith, order) in
    let tail : drop from (take to marks) ≡ take (to - from) (drop from marks) = ap (λ (n : ℕ). drop from (take n marks)) (sym whole) ∙ drop-take from (to - from) marks in
    let count : last - first ≡ marked_count (take (to - from) (drop from marks)) = omega (arith, split, ap marked_count head, ap marked_count tail, a.before, b.before) in
    let some_there : AreBlocks (drop from lengths) (drop from marks) = λ k is. subst (λ (n : ℕ). 0 < n) (sym (get_or-drop from lengths k 0)) (some (from + k) (sym (get_or-drop from marks k false) ∙ is)) in
    let taken = take-blocks base from (drop from lengths) (drop from marks) (to - from) (length-drop from marks ∙ (omega (arith, same) ∙ sym (length-drop from lengths))) some_there in
    (λ k. take (count k) (rest k)) ∙ taken

within_parts : (from to k : ℕ) → is_within from to k ≡ true → (from ≤ k) × (k < to)
within_parts from to k is = let both = and_parts (nat_le from k) (nat_lt k to) is in (leb-true from k both.0, ltb-true k to both.1)

pub within_of : (from to k : ℕ) → from ≤ k → k < to → is_within from to k ≡ true
within_of from to k low high = grind (arith, nat_tests)

-- An address lies in one of them exactly where its granule is between the starts, and in a due block.
pub lies_in-part : (base : ℕ) (lengths : List ℕ) (marks : List Bool) (from to k : ℕ) → IsTable base lengths marks → from ≤ to → to ≤ length lengths
    → ((j : ℕ) → j < from → j + get_or lengths j 0 ≤ from) → ((j : ℕ) → j < to → j + get_or lengths j 0 ≤ to)
    → lies_in (blocks_of is_marked base from (take (to - from) (drop from lengths)) (take (to - from) (drop from marks))) (base + 16 * k)
    ≡ (is_within from to k && is_occupied k (kept_lengths is_marked lengths marks))
lies_in-part base lengths marks from to k table order within cut_from cut_to =
    let a : ℕ = base + 16 * k in
    let part_l : List ℕ = take (to - from) (drop from lengths) in
    let part_m : List Bool = take (to - from) (drop from marks) in
    let kept : List ℕ = kept_lengths is_marked lengths marks in
    let long : length kept ≡ length lengths = length-kept_lengths is_marked lengths marks table.same in
    let within_m : to ≤ length marks = omega (arith, within, table.same) in
    let count_l : length part_l ≡ to - from = length-part lengths 0 from to order within in
    let count_m : length part_m ≡ to - from = length-part marks true from to order within_m in
    elim (cases_Bool (is_within from to k && is_occupied k kept)) [
      | inl is ↦
          let both = and_parts (is_within from to k) (is_occupied k kept) is in
          let there = within_parts from to k both.0 in
          let by = is_taken_by kept k both.1 in
          let inside : by.0 < length lengths = omega (arith, by.1.0, there.1, within) in
          let mark = kept_block is_marked lengths marks by.0 true table.same inside (omega (arith, by.1.0, by.1.1)) in
          let n_is = get_or-kept is_marked lengths marks by.0 true table.same inside mark in
          let j : ℕ = by.0 - from in
          let after : from ≤ by.0 = elim (cases_lt by.0 from) [
            | inl before ↦ absurd (omega (arith, cut_from by.0 before, by.1.1, n_is, there.0))
            | inr le ↦ le
          ] in
          let at : from + j ≡ by.0 = omega (arith, after) in
          let short : j < to - from = omega (arith, at, by.1.0, there.1) in
          let n_part : get_or part_l j 0 ≡ get_or lengths by.0 0 = get_or-part lengths 0 from to order within j short ∙ ap (λ (x : ℕ). get_or lengths x 0) at in
          let m_part : get_or part_m j true ≡ get_or marks by.0 true = get_or-part marks true from to order within_m j short ∙ ap (λ (x : ℕ). get_or marks x true) at in
          let start : ℕ = base + 16 * by.0 in
          let here = has_address-within a (start, 16 * get_or part_l j 0) (omega (arith, by.1.0)) (omega (arith, by.1.1, n_is, n_part)) in
          rw is (any-block (has_address a) is_marked base from part_l part_m true j (count_m ∙ sym count_l) (omega (arith, at)) (omega (arith, short, count_l)) (omega (arith, by.1.0, by.1.1, n_is, n_part)) (m_part ∙ mark) here)
      | inr none ↦
          rw none (list_any_none (has_address a) (blocks_of is_marked base from part_l part_m) (All-blocks_of (λ block. has_address a block ≡ false) is_marked base from part_l part_m true
          (λ i start start_is lt some mark.
          let j : ℕ = from + i in
          let short : i < to - from = omega (arith, lt, count_l) in
          let inside : j < length lengths = omega (arith, short, within) in
          let n_part : get_or part_l i 0 ≡ get_or lengths j 0 = get_or-part lengths 0 from to order within i short in
          let m_part : get_or part_m i true ≡ get_or marks j true = get_or-part marks true from to order within_m i short in
          let n_is = get_or-kept is_marked lengths marks j true table.same inside (sym m_part ∙ mark) in
          elim (cases_lt k j) [
            | inl less ↦ has_address-before a (start, 16 * get_or part_l i 0) (omega (arith, less, start_is))
            | inr le ↦ elim (cases_lt k (j + get_or lengths j 0)) [
              | inl reaches ↦
                  let taken = is_taken_within kept j k le (omega (arith, reaches, n_is)) in
                  let between = within_of from to k (omega (arith, le)) (omega (arith, reaches, cut_to j (omega (arith, short)))) in
                  absurd (true≢false (sym (and_from (is_within from to k) (is_occupied k kept) between taken) ∙ none))
              | inr past ↦ has_address-after a (start, 16 * get_or part_l i 0) (omega (arith, past, n_part, start_is))
            ]
          ])))
    ]

-- So granules lie in blocks that are due and told by their numbers exactly where they are between the starts, and in one
-- that the table has as due.
pub in_due : {base : ℕ} {lengths : List ℕ} {marks : List Bool} (lates : List Bool) (is_open : Bool) {first last from to : ℕ} → IsTable base lengths marks → AreBlocks lengths marks → first ≤ last
    → IsDueStart lengths marks first from → IsDueStart lengths marks last to → (k : ℕ)
    → is_in_due (heap_state base lengths marks lates is_open) first last k ≡ (is_within from to k && is_occupied k (kept_lengths is_marked lengths marks))
in_due {base} {lengths} {marks} lates is_open {first} {last} {from} {to} table some order a b k =
    let starts = start_order lengths marks first last from to table.same a b order in
    ap (λ (blocks : List Span). lies_in (take (last - first) (drop first blocks)) (base + 16 * k)) (due-heap_state base lengths marks lates is_open)
    ∙ ap (λ (blocks : List Span). lies_in blocks (base + 16 * k)) (blocks-part base lengths marks first last from to table.same some a b starts)
    ∙ lies_in-part base lengths marks from to k table starts b.within (cut_at base lengths marks first from table some a) (cut_at base lengths marks last to table some b)
