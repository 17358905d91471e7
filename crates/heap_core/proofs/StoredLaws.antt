-- A table in rows of bits: what a block that is put, due or taken away changes in it.
use Rattle.std.proofs.Common.{◌≡◌, ◌≢◌, ◌<◌, ◌≤◌, ◌+◌, ◌-◌, ◌*◌, ◌%◌, ◌/◌, ◌&&◌, ◌||◌, not, nat_lt, inl, inr, ℕ, zero, suc, Bool, true, false, cond, List, [], ◌∷◌, length, get_or, replicate, set, length-set, Result, Ok, Err, IfOk, refl, sym, ap, ◌∙◌, subst, arith}
use Rattle.std.proofs.lemmas.Bool.{and_from, and_parts, both_ways, cases_Bool, cases_eq, cases_lt, cases_order, le-ltb, lt-ltb, ltb-true, not-true, true≢false}
use Rattle.std.proofs.Math.Bool.{and-true, or-true}
use Rattle.std.proofs.lemmas.Bool.Decides.{nat_tests}
use Rattle.std.proofs.lemmas.List.{ext_get_or, get_or-set_other, get_or-set_same, get_or_past, length-replicate}
use Rattle.std.proofs.lemmas.List.FromFn.{get_or-map-range_with_len, length-map-range_with_len}
use Rattle.granule_rows.specs.Counts.{count_below, is_both}
use Rattle.granule_rows.specs.Runs as rows
use Rattle.granule_rows.specs.Runs.{IsFirstMultiple, is_within}
use Rattle.heap_core.proofs.EmptyLaws.{get_or-falses, get_or-zeros, is_occupied-zeros, zeros}
use Rattle.heap_core.proofs.NthLaws.{count-marks_of, count-take-marks_of, within_of}
use Rattle.heap_core.proofs.KeptLaws.{get_or-kept, get_or-kept_lengths, get_or-not_kept, kept-le, length-kept_lengths}
use Rattle.heap_model.specs.ShadowLaws.{get_or-bits_of, length-bits_of}
use Rattle.heap_core.proofs.RunLaws.{is_occupied-set_other, is_taken_by, is_taken_none, is_taken_within}
use Rattle.heap_core.specs.Rows.{AreRows, row_granules}
use Rattle.heap_model.specs.Shadow.{bits_of}
use Rattle.heap_core.specs.Stored.{AreStored, length_in, lengths_of, marks_of}
use Rattle.heap_core.specs.Table.{AreBlocks, IsFirstGap, IsGap, IsDueStart, marked_count, is_marked, is_unmarked, is_occupied, kept_lengths}
use Rattle.heap_core.specs.declared.rows.Rows.{Rows}
use Rattle.heap_core.specs.declared.table.Table.TheInside.{Inside}
use Rattle.tag_memory.specs.Laws.{is_set_zero}
use Rattle.tag_memory.specs.Tags.{is_set, is_set_for}

-- A test fails where its second part does.
pub and_false : (a b : Bool) → b ≡ false → (a && b) ≡ false
and_false false b none = refl
and_false true b none = none

-- ---- lengths and marks

pub length-lengths_of : (starts lengths : List ℕ) → length (lengths_of starts lengths) ≡ length lengths
unfolding lengths_of
length-lengths_of starts lengths = length-map-range_with_len (length_in starts lengths) 0 (length lengths)

pub length-marks_of : (starts due : List ℕ) (n : ℕ) → length (marks_of starts due n) ≡ n
unfolding marks_of
length-marks_of starts due n = length-map-range_with_len (λ k. is_set_for starts k && is_set_for due k) 0 n

get_or-lengths_inside : (starts lengths : List ℕ) (k : ℕ) → k < length lengths → get_or (lengths_of starts lengths) k 0 ≡ length_in starts lengths k
unfolding lengths_of
get_or-lengths_inside starts lengths k lt = get_or-map-range_with_len (length_in starts lengths) 0 (length lengths) k k 0 lt (omega arith)

-- Where no block starts, or past the end, there is no length.
pub get_or-lengths_of : (starts lengths : List ℕ) (k : ℕ) → get_or (lengths_of starts lengths) k 0 ≡ length_in starts lengths k
get_or-lengths_of starts lengths k = elim (cases_lt k (length lengths)) [
  | inl inside ↦ get_or-lengths_inside starts lengths k inside
  | inr past ↦
      let none : get_or lengths k 0 ≡ 0 = get_or_past lengths k 0 past in
      get_or_past (lengths_of starts lengths) k 0 (omega (arith, length-lengths_of starts lengths))
      ∙ sym (elim (cases_Bool (is_set_for starts k)) [ inl is ↦ rw (is, none) refl | inr is ↦ rw is refl ])
]

pub get_or-marks_of : (starts due : List ℕ) (n k : ℕ) → k < n → get_or (marks_of starts due n) k false ≡ (is_set_for starts k && is_set_for due k)
unfolding marks_of
get_or-marks_of starts due n k lt = get_or-map-range_with_len (λ k. is_set_for starts k && is_set_for due k) 0 n k k false lt (omega arith)

pub length_in-start : (starts lengths : List ℕ) (k : ℕ) → is_set_for starts k ≡ true → length_in starts lengths k ≡ get_or lengths k 0
length_in-start starts lengths k is = rw is refl

pub length_in-none : (starts lengths : List ℕ) (k : ℕ) → is_set_for starts k ≡ false → length_in starts lengths k ≡ 0
length_in-none starts lengths k is = rw is refl

-- A block starts where there is a length.
pub starts_there : (starts lengths : List ℕ) (k : ℕ) → 0 < get_or (lengths_of starts lengths) k 0 → is_set_for starts k ≡ true
starts_there starts lengths k some = elim (cases_Bool (is_set_for starts k)) [
  | inl is ↦ is
  | inr none ↦ absurd (omega (arith, get_or-lengths_of starts lengths k, length_in-none starts lengths k none))
]

-- ---- ranges

within_before : (first end k : ℕ) → k < first → is_within first end k ≡ false
within_before first end k lt = grind (arith, nat_tests)

within_behind : (first end k : ℕ) → end ≤ k → is_within first end k ≡ false
within_behind first end k le = grind (arith, nat_tests)

-- ---- a block is put

within_one : (p : ℕ) → is_within p (p + 1) p ≡ true
within_one p = grind (arith, nat_tests)

not_within_one : (p k : ℕ) → k ≢ p → is_within p (p + 1) k ≡ false
not_within_one p k other = elim (cases_lt k p) [
  | inl before ↦ grind (arith, nat_tests)
  | inr from ↦ elim (cases_eq k p) [ inl same ↦ absurd (other same) | inr apart ↦ (let past : p + 1 ≤ k = omega arith in grind (arith, nat_tests)) ]
]

start_other : (starts new : List ℕ) (p k : ℕ) → ((k : ℕ) → is_set_for new k ≡ (is_within p (p + 1) k || is_set_for starts k)) → k ≢ p
    → is_set_for new k ≡ is_set_for starts k
start_other starts new p k bits other = bits k ∙ ap (λ b. b || is_set_for starts k) (not_within_one p k other)

start_same : (starts new : List ℕ) (p : ℕ) → ((k : ℕ) → is_set_for new k ≡ (is_within p (p + 1) k || is_set_for starts k)) → is_set_for new p ≡ true
start_same starts new p bits = bits p ∙ ap (λ b. b || is_set_for starts p) (within_one p)

pub lengths_of-put : (starts new lengths : List ℕ) (p n : ℕ) → p < length lengths
    → ((k : ℕ) → is_set_for new k ≡ (is_within p (p + 1) k || is_set_for starts k))
    → lengths_of new (set lengths p n) ≡ set (lengths_of starts lengths) p n
lengths_of-put starts new lengths p n inside bits =
    let long : length (lengths_of new (set lengths p n)) ≡ length (set (lengths_of starts lengths) p n) =
    length-lengths_of new (set lengths p n) ∙ (length-set lengths p n ∙ sym (length-set (lengths_of starts lengths) p n ∙ length-lengths_of starts lengths)) in
    ext_get_or 0 (lengths_of new (set lengths p n)) (set (lengths_of starts lengths) p n) long
    (λ k lt. get_or-lengths_of new (set lengths p n) k
    ∙ elim (cases_eq k p) [
      | inl same ↦
          let there : get_or (set lengths p n) k 0 ≡ n = rw same (get_or-set_same lengths p n 0 inside) in
          let start : is_set_for new k ≡ true = rw same (start_same starts new p bits) in
          let here : get_or (set (lengths_of starts lengths) p n) k 0 ≡ n = rw same (get_or-set_same (lengths_of starts lengths) p n 0 (omega (arith, length-lengths_of starts lengths))) in
          length_in-start new (set lengths p n) k start ∙ (there ∙ sym here)
      | inr other ↦
          let there : get_or (set lengths p n) k 0 ≡ get_or lengths k 0 = get_or-set_other lengths p k n 0 other in
          let same : is_set_for new k ≡ is_set_for starts k = start_other starts new p k bits other in
          let step : length_in new (set lengths p n) k ≡ length_in starts lengths k = rw (same, there) refl in
          step ∙ sym (get_or-set_other (lengths_of starts lengths) p k n 0 other ∙ get_or-lengths_of starts lengths k)
    ])

pub marks_of-put : (starts new due : List ℕ) (n p : ℕ) → p < n
    → ((k : ℕ) → is_set_for new k ≡ (is_within p (p + 1) k || is_set_for starts k)) → is_set_for due p ≡ false
    → marks_of new due n ≡ set (marks_of starts due n) p false
marks_of-put starts new due n p inside bits live =
    let long : length (marks_of new due n) ≡ length (set (marks_of starts due n) p false) =
    length-marks_of new due n ∙ sym (length-set (marks_of starts due n) p false ∙ length-marks_of starts due n) in
    ext_get_or false (marks_of new due n) (set (marks_of starts due n) p false) long
    (λ k lt. let below : k < n = omega (arith, lt, length-marks_of new due n) in
    get_or-marks_of new due n k below
    ∙ elim (cases_eq k p) [
      | inl same ↦
          let here : get_or (set (marks_of starts due n) p false) k false ≡ false = rw same (get_or-set_same (marks_of starts due n) p false false (omega (arith, length-marks_of starts due n))) in
          let none : is_set_for due k ≡ false = rw same live in
          and_false (is_set_for new k) (is_set_for due k) none ∙ sym here
      | inr other ↦
          ap (λ b. b && is_set_for due k) (start_other starts new p k bits other)
          ∙ sym (get_or-set_other (marks_of starts due n) p k false false other ∙ get_or-marks_of starts due n k below)
    ])

-- The same granules lie in due blocks.
pub kept_lengths-put : (lengths : List ℕ) (marks : List Bool) (p n : ℕ) → length marks ≡ length lengths → p < length lengths → get_or lengths p 0 ≡ 0
    → kept_lengths is_marked (set lengths p n) (set marks p false) ≡ kept_lengths is_marked lengths marks
kept_lengths-put lengths marks p n same inside none =
    let long_marks = length-set marks p false in
    let long_lengths = length-set lengths p n in
    let both : length (set marks p false) ≡ length (set lengths p n) = long_marks ∙ (same ∙ sym long_lengths) in
    ext_get_or 0 _ _ (length-kept_lengths is_marked (set lengths p n) (set marks p false) both ∙ (long_lengths ∙ sym (length-kept_lengths is_marked lengths marks same)))
    (λ k lt. let below : k < length lengths = omega (arith, lt, length-kept_lengths is_marked (set lengths p n) (set marks p false) both, long_lengths) in
    elim (cases_eq k p) [
      | inl at ↦
          let mark : get_or (set marks p false) k false ≡ false = rw at (get_or-set_same marks p false false (omega arith)) in
          let left = get_or-not_kept is_marked (set lengths p n) (set marks p false) k false both (omega arith) mark in
          let right : get_or (kept_lengths is_marked lengths marks) k 0 ≡ 0 = (let zero : get_or lengths k 0 ≡ 0 = rw at none in omega (arith, kept-le is_marked lengths marks k)) in
          left ∙ sym right
      | inr other ↦
          get_or-kept_lengths is_marked (set lengths p n) (set marks p false) k false both (omega arith)
          ∙ (rw (get_or-set_other marks p k false false other, get_or-set_other lengths p k n 0 other) (sym (get_or-kept_lengths is_marked lengths marks k false same below)))
    ])

-- And those of the new block are no longer free.
pub free-put : (lengths : List ℕ) (free : ℕ → Bool) (p n count k : ℕ) → p + n ≤ count → length lengths ≡ count → get_or lengths p 0 ≡ 0
    → free k ≡ (nat_lt k count && not (is_occupied k lengths)) → 0 < n
    → (free k && not (is_within p (p + n) k)) ≡ (nat_lt k count && not (is_occupied k (set lengths p n)))
free-put lengths free p n count k end long none is some =
    let here : get_or (set lengths p n) p 0 ≡ n = get_or-set_same lengths p n 0 (omega arith) in
    elim (cases_lt k p) [
      | inl before ↦ (let out = within_before p (p + n) k before in rw (is, out, is_occupied-set_other lengths p n k none (inl before)) (and-true (nat_lt k count && not (is_occupied k lengths))))
      | inr from ↦ elim (cases_lt k (p + n)) [
        | inr past ↦ (let out = within_behind p (p + n) k past in rw (is, out, is_occupied-set_other lengths p n k none (inr past)) (and-true (nat_lt k count && not (is_occupied k lengths))))
        | inl inside ↦
            let in_block = within_of p (p + n) k from inside in
            rw (in_block, is_taken_within (set lengths p n) p k from (omega arith)) (and_false (free k) false refl ∙ sym (and_false (nat_lt k count) false refl))
      ]
    ]

-- ---- free runs, in the row and in the table

module _ (words lengths : List ℕ) (count : ℕ) (long : length lengths ≡ count) (bits : (k : ℕ) → is_set_for words k ≡ (nat_lt k count && not (is_occupied k lengths))) where
  free_there : (k : ℕ) → is_set_for words k ≡ true → (k < count) × (is_occupied k lengths ≡ false)
  free_there k set =
      let parts = and_parts (nat_lt k count) (not (is_occupied k lengths)) (sym (bits k) ∙ set) in
      (ltb-true k count parts.0, not-true (is_occupied k lengths) parts.1)

  pub table_run : (p n : ℕ) → rows.IsRun words p n → IsGap lengths p n
  table_run p n run = record {
    some = run.some;
    end = omega (arith, (free_there (p + n - 1) (run.free.each (p + n - 1) (omega (arith, run.some)) (omega (arith, run.some)))).0, run.some);
    free = λ k le lt. (free_there k (run.free.each k le lt)).1;
  }

  pub row_run : (p n : ℕ) → count ≤ 64 * length words → IsGap lengths p n → rows.IsRun words p n
  row_run p n room run = record {
    some = run.some;
    end = omega (arith, run.end);
    free = record { each = λ k le lt. bits k ∙ and_from (nat_lt k count) (not (is_occupied k lengths)) (lt-ltb k count (omega (arith, run.end))) (ap not (run.free k le lt)) };
  }

  pub table_first : {origin unit n p : ℕ} → count ≤ 64 * length words → IsFirstMultiple words origin unit n p → IsFirstGap origin unit lengths p n
  table_first {n = n} {p = p} room first = record {
    run = table_run p n first.run;
    multiple = first.multiple;
    least = λ q run multiple. first.least q (row_run q n room run) multiple;
  }

-- ---- no block reaches

-- No block reaches past a granule that lies in none.
pub not_taken_ends : (lengths : List ℕ) (k j : ℕ) → is_occupied k lengths ≡ false → j ≤ k → j + get_or lengths j 0 ≤ k
not_taken_ends lengths k j none le = elim (cases_lt k (j + get_or lengths j 0)) [
  | inl reaches ↦ absurd (both_ways _ none (is_taken_within lengths j k le reaches))
  | inr ends ↦ ends
]

pub kept_not_taken : (keeps : Bool → Bool) (lengths : List ℕ) (marks : List Bool) (k : ℕ) → is_occupied k lengths ≡ false → is_occupied k (kept_lengths keeps lengths marks) ≡ false
kept_not_taken keeps lengths marks k none =
    is_taken_none (kept_lengths keeps lengths marks) k (λ j le. omega (arith, not_taken_ends lengths k j none le, kept-le keeps lengths marks j))

-- ---- a table with one more block

module _ (t : Inside) (stored : AreStored t) where
  abbrev L : List ℕ
  L = lengths_of t.rows.starts.items t.lengths.items

  abbrev M : List Bool
  M = marks_of t.rows.starts.items t.rows.due.items (length t.lengths.items)

  abbrev n : ℕ
  n = length t.lengths.items

  pub same_count : length M ≡ length L
  same_count = length-marks_of t.rows.starts.items t.rows.due.items n ∙ sym (length-lengths_of t.rows.starts.items t.lengths.items)

  pub room : n ≤ 64 * length t.rows.free
  room = omega (arith, stored.count, stored.rows.free)

  pub first_place : {origin unit m p : ℕ} → IsFirstMultiple t.rows.free origin unit m p → IsFirstGap origin unit L p m
  first_place first = table_first t.rows.free L n (length-lengths_of t.rows.starts.items t.lengths.items) stored.free room first

  pub no_place : (origin unit m : ℕ) → ((p : ℕ) → (origin + p) % unit ≡ 0 → ¬ rows.IsRun t.rows.free p m) → (p : ℕ) → IsGap L p m → ¬ ((origin + p) % unit ≡ 0)
  no_place origin unit m none p run multiple =
      none p multiple (row_run t.rows.free L n (length-lengths_of t.rows.starts.items t.lengths.items) stored.free p m room run)

  -- A run of the row from a granule on is a gap of the table, and the other way round.
  pub gap_there : {p m : ℕ} → rows.IsRun t.rows.free p m → IsGap L p m
  gap_there {p = p} {m = m} run = table_run t.rows.free L n (length-lengths_of t.rows.starts.items t.lengths.items) stored.free p m run

  pub run_there : {p m : ℕ} → IsGap L p m → rows.IsRun t.rows.free p m
  run_there {p = p} {m = m} run = row_run t.rows.free L n (length-lengths_of t.rows.starts.items t.lengths.items) stored.free p m room run

  pub run_inside : {p m : ℕ} → IsGap L p m → p + m ≤ n
  run_inside run = omega (arith, run.end, length-lengths_of t.rows.starts.items t.lengths.items)

  pub not_due : (p : ℕ) → p < n → is_occupied p L ≡ false → is_set_for t.rows.due.items p ≡ false
  not_due p inside none = stored.due p inside ∙ kept_not_taken is_marked L M p none

  module _ (s : Rows) (p m : ℕ) (run : IsGap L p m) (due : s.due.items ≡ t.rows.due.items)
      (starts : (k : ℕ) → is_set_for s.starts.items k ≡ (is_within p (p + 1) k || is_set_for t.rows.starts.items k)) where
    none_there : get_or L p 0 ≡ 0
    none_there = omega (arith, not_taken_ends L p p (run.free p (omega arith) (omega (arith, run.some))) (omega arith))

    pub lengths_put : lengths_of s.starts.items (set t.lengths.items p m) ≡ set L p m
    lengths_put = lengths_of-put t.rows.starts.items s.starts.items t.lengths.items p m (omega (arith, run_inside run, run.some)) starts

    pub marks_put : marks_of s.starts.items s.due.items (length (set t.lengths.items p m)) ≡ set M p false
    marks_put = rw (due, length-set t.lengths.items p m)
        (marks_of-put t.rows.starts.items s.starts.items t.rows.due.items n p (omega (arith, run_inside run, run.some)) starts
        (not_due p (omega (arith, run_inside run, run.some)) (run.free p (omega arith) (omega (arith, run.some)))))

    pub AreStored-put : (new : Inside) → new.rows ≡ s → new.lengths.items ≡ set t.lengths.items p m → AreRows s → row_granules s ≡ row_granules t.rows
        → ((k : ℕ) → is_set_for s.free k ≡ (is_set_for t.rows.free k && not (is_within p (p + m) k))) → AreStored new
    AreStored-put new rows_are items are_rows count free =
        let long : length (set t.lengths.items p m) ≡ n = length-set t.lengths.items p m in
        record {
          rows = rw rows_are are_rows;
          count = rw (rows_are, items) (long ∙ (stored.count ∙ sym count));
          some = rw (rows_are, items) (λ k is.
              elim (cases_eq k p) [
                | inl same ↦ (let there : get_or (set t.lengths.items p m) k 0 ≡ m = rw same (get_or-set_same t.lengths.items p m 0 (omega (arith, run_inside run, run.some))) in omega (arith, run.some))
                | inr other ↦ omega (arith, get_or-set_other t.lengths.items p k m 0 other, stored.some k (sym (start_other t.rows.starts.items s.starts.items p k starts other) ∙ is))
              ]);
          free = rw (rows_are, items) (λ k. free k ∙ rw (lengths_put, long) (free-put L (is_set_for t.rows.free) p m n k (run_inside run) (length-lengths_of t.rows.starts.items t.lengths.items) none_there (stored.free k) run.some));
          due = rw (rows_are, items) (λ k lt. rw (marks_put, lengths_put, due) (stored.due k (omega arith)
              ∙ ap (is_occupied k) (sym (kept_lengths-put L M p m same_count (omega (arith, run.end, run.some)) none_there))));
        }

-- ---- a table without blocks

pub lengths_of-none : (starts lengths : List ℕ) → ((k : ℕ) → is_set_for starts k ≡ false) → lengths_of starts lengths ≡ zeros (length lengths)
lengths_of-none starts lengths none =
    ext_get_or 0 (lengths_of starts lengths) (zeros (length lengths)) (length-lengths_of starts lengths ∙ sym (length-replicate (length lengths) 0))
    (λ k lt. get_or-lengths_of starts lengths k ∙ (length_in-none starts lengths k (none k) ∙ sym (get_or-zeros (length lengths) k)))

pub marks_of-none : (starts due : List ℕ) (n : ℕ) → ((k : ℕ) → (is_set_for starts k && is_set_for due k) ≡ false) → marks_of starts due n ≡ replicate n false
marks_of-none starts due n none =
    ext_get_or false (marks_of starts due n) (replicate n false) (length-marks_of starts due n ∙ sym (length-replicate n false))
    (λ k lt. get_or-marks_of starts due n k (omega (arith, lt, length-marks_of starts due n)) ∙ (none k ∙ sym (get_or-falses n k)))

-- Where no block starts, and nothing is due, all granules are free.
pub AreStored-new : (t : Inside) (n : ℕ) → t.lengths.items ≡ zeros n → AreRows t.rows → row_granules t.rows ≡ n
    → ((k : ℕ) → is_set_for t.rows.free k ≡ is_within 0 n k) → ((k : ℕ) → is_set_for t.rows.starts.items k ≡ false)
    → ((k : ℕ) → is_set_for t.rows.due.items k ≡ false) → AreStored t
AreStored-new t n items are_rows count free starts due =
    let long : length t.lengths.items ≡ n = ap length items ∙ length-replicate n 0 in
    let none : lengths_of t.rows.starts.items t.lengths.items ≡ zeros n = lengths_of-none t.rows.starts.items t.lengths.items starts ∙ ap zeros long in
    record {
      rows = are_rows;
      count = long ∙ sym count;
      some = λ k is. absurd (both_ways _ (starts k) is);
      free = λ k. free k ∙ rw (none, long, is_occupied-zeros n k) (grind (arith, nat_tests));
      due = λ k lt. due k ∙ sym (kept_not_taken is_marked (lengths_of t.rows.starts.items t.lengths.items) (marks_of t.rows.starts.items t.rows.due.items (length t.lengths.items)) k (rw none (is_occupied-zeros n k)));
    }

-- ---- what is read

-- An element that is there is read whatever stands for one that isn't.
read_at : (xs : List ℕ) (i x : ℕ) → i < length xs → x ≡ get_or xs i x → x ≡ get_or xs i 0
read_at [] i x lt e = absurd (omega arith)
read_at (y ∷ xs) zero x lt e = e
read_at (y ∷ xs) (suc i) x lt e = read_at xs i x (omega arith) e

module _ (t : Inside) (stored : AreStored t) where
  pub row_reaches : (k : ℕ) → k < length (lengths_of t.rows.starts.items t.lengths.items) → k < 64 * length t.rows.starts.items
  row_reaches k lt = omega (arith, length-lengths_of t.rows.starts.items t.lengths.items, stored.count)

  pub length_there : (k : ℕ) → is_set_for t.rows.starts.items k ≡ true → get_or t.lengths.items k 0 ≡ get_or (lengths_of t.rows.starts.items t.lengths.items) k 0
  length_there k is = sym (get_or-lengths_of t.rows.starts.items t.lengths.items k ∙ length_in-start t.rows.starts.items t.lengths.items k is)

  pub length_read : (k x : ℕ) → k < length (lengths_of t.rows.starts.items t.lengths.items) → is_set_for t.rows.starts.items k ≡ true
      → x ≡ get_or t.lengths.items k x → x ≡ get_or (lengths_of t.rows.starts.items t.lengths.items) k 0
  length_read k x lt is read = read_at t.lengths.items k x (omega (arith, length-lengths_of t.rows.starts.items t.lengths.items)) read ∙ length_there k is

  pub mark_read : (k : ℕ) → k < length (lengths_of t.rows.starts.items t.lengths.items)
      → (is_set_for t.rows.starts.items k && is_set_for t.rows.due.items k) ≡ get_or (marks_of t.rows.starts.items t.rows.due.items (length t.lengths.items)) k false
  mark_read k lt = sym (get_or-marks_of t.rows.starts.items t.rows.due.items (length t.lengths.items) k (omega (arith, length-lengths_of t.rows.starts.items t.lengths.items)))

  pub length_nowhere : (k : ℕ) → is_set_for t.rows.starts.items k ≡ false → 0 ≡ get_or (lengths_of t.rows.starts.items t.lengths.items) k 0
  length_nowhere k none = sym (get_or-lengths_of t.rows.starts.items t.lengths.items k ∙ length_in-none t.rows.starts.items t.lengths.items k none)

pub if_ok : {T E : Type 0} {P Q : T → Type 0} (r : Result T E) → IfOk r P → ((x : T) → P x → Q x) → IfOk r Q
if_ok (Ok x) given more = more x given
if_ok (Err e) given more = tt

-- The row of due granules is their shadow.
module _ (t : Inside) (stored : AreStored t) where
  pub length_of_row : length (bits_of t.rows.due.items) ≡ length (lengths_of t.rows.starts.items t.lengths.items)
  length_of_row = length-bits_of t.rows.due.items ∙ omega (arith, stored.rows.due, stored.count, length-lengths_of t.rows.starts.items t.lengths.items)

  pub painted_by_row : (k : ℕ) → k < length (lengths_of t.rows.starts.items t.lengths.items) → get_or (bits_of t.rows.due.items) k false
      ≡ is_occupied k (kept_lengths is_marked (lengths_of t.rows.starts.items t.lengths.items) (marks_of t.rows.starts.items t.rows.due.items (length t.lengths.items)))
  painted_by_row k lt =
      get_or-bits_of t.rows.due.items k (omega (arith, row_reaches t stored k lt, stored.rows.due))
      ∙ stored.due k (omega (arith, length-lengths_of t.rows.starts.items t.lengths.items))

-- ---- due blocks by their number

module _ (t : Inside) (stored : AreStored t) where
  pub row_long : length (lengths_of t.rows.starts.items t.lengths.items) ≡ 64 * length t.rows.due.items
  row_long = length-lengths_of t.rows.starts.items t.lengths.items ∙ omega (arith, stored.count, stored.rows.due)

  pub marks_counted : count_below (is_both t.rows.starts.items t.rows.due.items) (64 * length t.rows.starts.items) ≡ marked_count (marks_of t.rows.starts.items t.rows.due.items (length t.lengths.items))
  marks_counted = ap (count_below (is_both t.rows.starts.items t.rows.due.items)) (sym stored.count) ∙ sym (count-marks_of t.rows.starts.items t.rows.due.items (length t.lengths.items))

  -- A mark stands where a block starts, and no block is empty.
  pub marks_some : AreBlocks (lengths_of t.rows.starts.items t.lengths.items) (marks_of t.rows.starts.items t.rows.due.items (length t.lengths.items))
  marks_some k is = elim (cases_lt k (length t.lengths.items)) [
    | inl inside ↦
        let both = and_parts (is_set_for t.rows.starts.items k) (is_set_for t.rows.due.items k) (sym (get_or-marks_of t.rows.starts.items t.rows.due.items (length t.lengths.items) k inside) ∙ is) in
        let there = get_or-lengths_of t.rows.starts.items t.lengths.items k ∙ length_in-start t.rows.starts.items t.lengths.items k both.0 in
        omega (arith, there, stored.some k both.0)
    | inr past ↦ absurd (true≢false (sym is ∙ get_or_past (marks_of t.rows.starts.items t.rows.due.items (length t.lengths.items)) k false (omega (arith, past, length-marks_of t.rows.starts.items t.rows.due.items (length t.lengths.items)))))
  ]

  pub starts_at : (n p : ℕ)
      → (n ≤ count_below (is_both t.rows.starts.items t.rows.due.items) (64 * length t.rows.starts.items) → count_below (is_both t.rows.starts.items t.rows.due.items) p ≡ n)
      → p ≤ 64 * length t.rows.starts.items
      → (p < 64 * length t.rows.starts.items → is_both t.rows.starts.items t.rows.due.items p ≡ true)
      → n ≤ marked_count (marks_of t.rows.starts.items t.rows.due.items (length t.lengths.items))
      → IsDueStart (lengths_of t.rows.starts.items t.lengths.items) (marks_of t.rows.starts.items t.rows.due.items (length t.lengths.items)) n p
  starts_at n p before within one there =
      let long = length-lengths_of t.rows.starts.items t.lengths.items in
      record {
        before = count-take-marks_of t.rows.starts.items t.rows.due.items (length t.lengths.items) p (omega (arith, within, stored.count)) ∙ before (omega (arith, there, marks_counted));
        within = omega (arith, within, stored.count, long);
        due = λ inside. get_or-marks_of t.rows.starts.items t.rows.due.items (length t.lengths.items) p (omega (arith, inside, long)) ∙ one (omega (arith, inside, long, stored.count));
      }

  pub ends_at : (n p : ℕ)
      → (count_below (is_both t.rows.starts.items t.rows.due.items) (64 * length t.rows.starts.items) ≤ n → p ≡ 64 * length t.rows.starts.items)
      → marked_count (marks_of t.rows.starts.items t.rows.due.items (length t.lengths.items)) ≤ n
      → p ≡ length (lengths_of t.rows.starts.items t.lengths.items)
  ends_at n p past few = omega (arith, past (omega (arith, few, marks_counted)), row_long, stored.rows.due)

  -- Of a range that lies in the table, the granules in due blocks are those whose bits are 1.
  pub due_range : (from to : ℕ) → to ≤ length (lengths_of t.rows.starts.items t.lengths.items) → (k : ℕ)
      → (is_within from to k && is_occupied k (kept_lengths is_marked (lengths_of t.rows.starts.items t.lengths.items) (marks_of t.rows.starts.items t.rows.due.items (length t.lengths.items))))
      ≡ (is_within from to k && is_set_for t.rows.due.items k)
  due_range from to inside k = elim (cases_lt k to) [
    | inl before ↦ ap (λ (b : Bool). is_within from to k && b) (sym (stored.due k (omega (arith, before, inside, length-lengths_of t.rows.starts.items t.lengths.items))))
    | inr past ↦ rw (within_behind from to k past) refl
  ]

-- ---- a block is due

-- A block at a granule where none started takes its granules beside those that were taken.
taken_put : (lengths : List ℕ) (p n k : ℕ) → get_or lengths p 0 ≡ 0 → p < length lengths
    → is_occupied k (set lengths p n) ≡ (is_within p (p + n) k || is_occupied k lengths)
taken_put lengths p n k none inside =
    let here : get_or (set lengths p n) p 0 ≡ n = get_or-set_same lengths p n 0 inside in
    elim (cases_lt k p) [
      | inl before ↦ (let out = within_before p (p + n) k before in rw (out, is_occupied-set_other lengths p n k none (inl before)) refl)
      | inr from ↦ elim (cases_lt k (p + n)) [
        | inr past ↦ (let out = within_behind p (p + n) k past in rw (out, is_occupied-set_other lengths p n k none (inr past)) refl)
        | inl in_block ↦ (let is = within_of p (p + n) k from in_block in rw (is, is_taken_within (set lengths p n) p k from (omega arith)) refl)
      ]
    ]

kept_lengths-hold : (lengths : List ℕ) (marks : List Bool) (i : ℕ) → length marks ≡ length lengths → i < length lengths
    → kept_lengths is_marked lengths (set marks i true) ≡ set (kept_lengths is_marked lengths marks) i (get_or lengths i 0)
kept_lengths-hold lengths marks i same inside =
    let both : length (set marks i true) ≡ length lengths = length-set marks i true ∙ same in
    let kept_long = length-kept_lengths is_marked lengths marks same in
    ext_get_or 0 _ _ (length-kept_lengths is_marked lengths (set marks i true) both ∙ sym (length-set (kept_lengths is_marked lengths marks) i (get_or lengths i 0) ∙ kept_long))
    (λ k lt. let below : k < length lengths = omega (arith, lt, length-kept_lengths is_marked lengths (set marks i true) both) in
    elim (cases_eq k i) [
      | inl at ↦
          let mark : get_or (set marks i true) k false ≡ true = rw at (get_or-set_same marks i true false (omega arith)) in
          let right : get_or (set (kept_lengths is_marked lengths marks) i (get_or lengths i 0)) k 0 ≡ get_or lengths k 0 =
          rw at (get_or-set_same (kept_lengths is_marked lengths marks) i (get_or lengths i 0) 0 (omega arith)) in
          get_or-kept is_marked lengths (set marks i true) k false both below mark ∙ sym right
      | inr other ↦
          get_or-kept_lengths is_marked lengths (set marks i true) k false both below
          ∙ (rw (get_or-set_other marks i k true false other) (sym (get_or-kept_lengths is_marked lengths marks k false same below))
          ∙ sym (get_or-set_other (kept_lengths is_marked lengths marks) i k (get_or lengths i 0) 0 other))
    ])

module _ {t : Inside} (stored : AreStored t) (s : Rows) (i : ℕ) (inside : i < length (lengths_of t.rows.starts.items t.lengths.items))
    (block : 0 < get_or (lengths_of t.rows.starts.items t.lengths.items) i 0)
    (apart : (j k : ℕ) → j < k → 0 < get_or (lengths_of t.rows.starts.items t.lengths.items) k 0 → j + get_or (lengths_of t.rows.starts.items t.lengths.items) j 0 ≤ k)
    (starts : s.starts.items ≡ t.rows.starts.items)
    (due : (k : ℕ) → is_set_for s.due.items k ≡ (is_within i (i + get_or (lengths_of t.rows.starts.items t.lengths.items) i 0) k || is_set_for t.rows.due.items k)) where
  start_is : is_set_for t.rows.starts.items i ≡ true
  start_is = starts_there t.rows.starts.items t.lengths.items i block

  below : i < length t.lengths.items
  below = omega (arith, length-lengths_of t.rows.starts.items t.lengths.items)

  -- No other block starts among its granules.
  other_start : (k : ℕ) → k ≢ i → is_set_for t.rows.starts.items k ≡ true → is_within i (i + get_or (lengths_of t.rows.starts.items t.lengths.items) i 0) k ≡ false
  other_start k other is = elim (cases_lt k i) [
    | inl before ↦ within_before i (i + get_or (lengths_of t.rows.starts.items t.lengths.items) i 0) k before
    | inr from ↦
        let some : 0 < get_or (lengths_of t.rows.starts.items t.lengths.items) k 0 = omega (arith, stored.some k is, length_there t stored k is) in
        let less : i < k = elim (cases_eq k i) [ inl same ↦ absurd (other same) | inr apart ↦ omega arith ] in
        let past : i + get_or (lengths_of t.rows.starts.items t.lengths.items) i 0 ≤ k = omega (arith, apart i k less some) in
        within_behind i (i + get_or (lengths_of t.rows.starts.items t.lengths.items) i 0) k past
  ]

  same_mark : (k : ℕ) → k ≢ i → (is_set_for t.rows.starts.items k && is_set_for s.due.items k) ≡ (is_set_for t.rows.starts.items k && is_set_for t.rows.due.items k)
  same_mark k other = elim (cases_Bool (is_set_for t.rows.starts.items k)) [
    | inl is ↦ rw (is, due k, other_start k other is) refl
    | inr none ↦ rw none refl
  ]

  abbrev marks_now : List Bool
  marks_now = marks_of t.rows.starts.items t.rows.due.items (length t.lengths.items)

  pub marks_hold : marks_of s.starts.items s.due.items (length t.lengths.items) ≡ set marks_now i true
  marks_hold = rw starts
      (ext_get_or false (marks_of t.rows.starts.items s.due.items (length t.lengths.items)) (set marks_now i true)
      (length-marks_of t.rows.starts.items s.due.items (length t.lengths.items) ∙ sym (length-set marks_now i true ∙ length-marks_of t.rows.starts.items t.rows.due.items (length t.lengths.items)))
      (λ k lt. let inside_k : k < length t.lengths.items = omega (arith, lt, length-marks_of t.rows.starts.items s.due.items (length t.lengths.items)) in
      get_or-marks_of t.rows.starts.items s.due.items (length t.lengths.items) k inside_k
      ∙ elim (cases_eq k i) [
        | inl at ↦
            let in_block = within_of i (i + get_or (lengths_of t.rows.starts.items t.lengths.items) i 0) i (omega arith) (omega arith) in
            let now : is_set_for s.due.items k ≡ true = rw at (due i ∙ ap (λ b. b || is_set_for t.rows.due.items i) in_block) in
            let start : is_set_for t.rows.starts.items k ≡ true = rw at start_is in
            let right : get_or (set marks_now i true) k false ≡ true = rw at (get_or-set_same marks_now i true false (omega (arith, below, length-marks_of t.rows.starts.items t.rows.due.items (length t.lengths.items)))) in
            and_from _ _ start now ∙ sym right
        | inr other ↦
            same_mark k other
            ∙ sym (get_or-set_other marks_now i k true false other ∙ get_or-marks_of t.rows.starts.items t.rows.due.items (length t.lengths.items) k inside_k)
      ]))

  pub AreStored-hold : {new : Inside} → get_or marks_now i false ≡ false → new.rows ≡ s → new.lengths ≡ t.lengths → AreRows s → row_granules s ≡ row_granules t.rows → s.free ≡ t.rows.free → AreStored new
  AreStored-hold live rows_are items are_rows count free =
      let none : get_or (kept_lengths is_marked (lengths_of t.rows.starts.items t.lengths.items) marks_now) i 0 ≡ 0 =
      get_or-not_kept is_marked (lengths_of t.rows.starts.items t.lengths.items) marks_now i false (same_count t stored) inside live in
      let kept_long = length-kept_lengths is_marked (lengths_of t.rows.starts.items t.lengths.items) marks_now (same_count t stored) in
      record {
        rows = rw rows_are are_rows;
        count = rw (rows_are, items) (stored.count ∙ sym count);
        some = rw (rows_are, items, starts) stored.some;
        free = rw (rows_are, items, starts, free) stored.free;
        due = rw (rows_are, items) (λ k lt. rw (marks_hold, starts) (due k
            ∙ (rw (kept_lengths-hold (lengths_of t.rows.starts.items t.lengths.items) marks_now i (same_count t stored) inside)
            (ap (λ b. is_within i (i + get_or (lengths_of t.rows.starts.items t.lengths.items) i 0) k || b) (stored.due k lt)
            ∙ sym (taken_put (kept_lengths is_marked (lengths_of t.rows.starts.items t.lengths.items) marks_now) i (get_or (lengths_of t.rows.starts.items t.lengths.items) i 0) k none (omega (arith, kept_long)))))));
      }

-- ---- the due blocks are taken away

either_kept : (starts due : Bool) (n : ℕ) → cond (not (starts && due)) (cond starts n 0) 0 ≡ cond (starts && not due) n 0
either_kept false false n = refl
either_kept false true n = refl
either_kept true false n = refl
either_kept true true n = refl

-- A granule that lies in a block lies in one whose mark passes, or in one whose mark doesn't.
taken_both : (lengths : List ℕ) (marks : List Bool) (k : ℕ) → length marks ≡ length lengths
    → is_occupied k lengths ≡ (is_occupied k (kept_lengths is_unmarked lengths marks) || is_occupied k (kept_lengths is_marked lengths marks))
taken_both lengths marks k same = elim (cases_Bool (is_occupied k lengths)) [
  | inr none ↦ rw (none, kept_not_taken is_unmarked lengths marks k none, kept_not_taken is_marked lengths marks k none) refl
  | inl taken ↦
      let by = is_taken_by lengths k taken in
      let inside : by.0 < length lengths = elim (cases_lt by.0 (length lengths)) [
        | inl inside ↦ inside
        | inr past ↦ absurd (omega (arith, get_or_past lengths by.0 0 past, by.1.0, by.1.1))
      ] in
      elim (cases_Bool (get_or marks by.0 false)) [
        | inl due ↦
            let kept = get_or-kept is_marked lengths marks by.0 false same inside due in
            rw (taken, is_taken_within (kept_lengths is_marked lengths marks) by.0 k by.1.0 (omega (arith, by.1.1))) (sym (or-true (is_occupied k (kept_lengths is_unmarked lengths marks))))
        | inr live ↦
            let kept = get_or-kept is_unmarked lengths marks by.0 false same inside (ap not live) in
            rw (taken, is_taken_within (kept_lengths is_unmarked lengths marks) by.0 k by.1.0 (omega (arith, by.1.1))) refl
      ]
]

both_marks : (lengths : List ℕ) (marks : List Bool) (k : ℕ) → length marks ≡ length lengths → 0 < get_or (kept_lengths is_unmarked lengths marks) k 0
    → 0 < get_or (kept_lengths is_marked lengths marks) k 0 → ⊥
both_marks lengths marks k same live due = elim (cases_lt k (length lengths)) [
  | inr past ↦ omega (arith, get_or_past lengths k 0 past, kept-le is_unmarked lengths marks k)
  | inl inside ↦ elim (cases_Bool (get_or marks k false)) [
    | inl is ↦ omega (arith, get_or-not_kept is_unmarked lengths marks k false same inside (ap not is))
    | inr none ↦ omega (arith, get_or-not_kept is_marked lengths marks k false same inside none)
  ]
]

-- Not in both.
taken_once : (lengths : List ℕ) (marks : List Bool) (k : ℕ) → length marks ≡ length lengths
    → ((j k : ℕ) → j < k → 0 < get_or lengths k 0 → j + get_or lengths j 0 ≤ k)
    → is_occupied k (kept_lengths is_unmarked lengths marks) ≡ true → is_occupied k (kept_lengths is_marked lengths marks) ≡ true → ⊥
taken_once lengths marks k same apart live due =
    let a = is_taken_by (kept_lengths is_unmarked lengths marks) k live in
    let b = is_taken_by (kept_lengths is_marked lengths marks) k due in
    let a_le = kept-le is_unmarked lengths marks a.0 in
    let b_le = kept-le is_marked lengths marks b.0 in
    elim (cases_order a.0 b.0) [
      | inl at ↦ both_marks lengths marks a.0 same (omega (arith, a.1.0, a.1.1)) (let n : 0 < get_or (kept_lengths is_marked lengths marks) b.0 0 = omega (arith, b.1.0, b.1.1) in subst (λ (i : ℕ). 0 < get_or (kept_lengths is_marked lengths marks) i 0) (sym at) n)
      | inr order ↦ elim order [
        | inl less ↦ omega (arith, apart a.0 b.0 less (omega (arith, b.1.0, b.1.1)), a.1.1, b.1.0)
        | inr more ↦ omega (arith, apart b.0 a.0 more (omega (arith, a.1.0, a.1.1)), b.1.1, a.1.0)
      ]
    ]

-- Where no mark says so, nothing is due.
no_marks_taken : (lengths : List ℕ) (marks : List Bool) (k : ℕ) → ((j : ℕ) → get_or marks j false ≡ false) → length marks ≡ length lengths
    → is_occupied k (kept_lengths is_marked lengths marks) ≡ false
no_marks_taken lengths marks k none same = is_taken_none (kept_lengths is_marked lengths marks) k
    (λ j le. elim (cases_lt j (length lengths)) [
      | inl inside ↦ omega (arith, get_or-not_kept is_marked lengths marks j false same inside (none j))
      | inr past ↦ omega (arith, get_or_past lengths j 0 past, kept-le is_marked lengths marks j)
    ])

marks_all_false : (starts due : List ℕ) (n j : ℕ) → ((k : ℕ) → (is_set_for starts k && is_set_for due k) ≡ false) → get_or (marks_of starts due n) j false ≡ false
marks_all_false starts due n j none = rw (marks_of-none starts due n none) (get_or-falses n j)

past_row : (words : List ℕ) (k : ℕ) → 64 * length words ≤ k → is_set_for words k ≡ false
past_row words k past = ap (λ (x : ℕ). is_set x (k % 64)) (get_or_past words (k / 64) 0 (omega arith)) ∙ is_set_zero (k % 64)

given_back : (free a b : Bool) → free ≡ not (a || b) → (a ≡ true → b ≡ true → ⊥) → (free || b) ≡ not a
given_back free false false is once = rw is refl
given_back free false true is once = or-true free
given_back free true false is once = rw is refl
given_back free true true is once = absurd (once refl refl)

module _ (t : Inside) (stored : AreStored t) (s : Rows)
    (apart : (j k : ℕ) → j < k → 0 < get_or (lengths_of t.rows.starts.items t.lengths.items) k 0 → j + get_or (lengths_of t.rows.starts.items t.lengths.items) j 0 ≤ k)
    (starts : (k : ℕ) → is_set_for s.starts.items k ≡ (is_set_for t.rows.starts.items k && not (is_set_for t.rows.due.items k)))
    (due : (k : ℕ) → is_set_for s.due.items k ≡ false) where
  abbrev lengths_then : List ℕ
  lengths_then = lengths_of t.rows.starts.items t.lengths.items

  abbrev marks_then : List Bool
  marks_then = marks_of t.rows.starts.items t.rows.due.items (length t.lengths.items)

  pub lengths_drop : lengths_of s.starts.items t.lengths.items ≡ kept_lengths is_unmarked lengths_then marks_then
  lengths_drop =
      ext_get_or 0 (lengths_of s.starts.items t.lengths.items) (kept_lengths is_unmarked lengths_then marks_then)
      (length-lengths_of s.starts.items t.lengths.items ∙ sym (length-kept_lengths is_unmarked lengths_then marks_then (same_count t stored) ∙ length-lengths_of t.rows.starts.items t.lengths.items))
      (λ k lt. let inside : k < length t.lengths.items = omega (arith, lt, length-lengths_of s.starts.items t.lengths.items) in
      get_or-lengths_of s.starts.items t.lengths.items k
      ∙ (ap (λ b. cond b (get_or t.lengths.items k 0) 0) (starts k)
      ∙ sym (get_or-kept_lengths is_unmarked lengths_then marks_then k false (same_count t stored) (omega (arith, length-lengths_of t.rows.starts.items t.lengths.items))
      ∙ (ap (λ b. cond (not b) (get_or lengths_then k 0) 0) (get_or-marks_of t.rows.starts.items t.rows.due.items (length t.lengths.items) k inside)
      ∙ (ap (λ x. cond (not (is_set_for t.rows.starts.items k && is_set_for t.rows.due.items k)) x 0) (get_or-lengths_of t.rows.starts.items t.lengths.items k)
      ∙ either_kept (is_set_for t.rows.starts.items k) (is_set_for t.rows.due.items k) (get_or t.lengths.items k 0))))))

  pub marks_drop : marks_of s.starts.items s.due.items (length t.lengths.items) ≡ replicate (length lengths_then) false
  marks_drop = marks_of-none s.starts.items s.due.items (length t.lengths.items) (λ k. and_false (is_set_for s.starts.items k) (is_set_for s.due.items k) (due k))
      ∙ ap (λ n. replicate n false) (sym (length-lengths_of t.rows.starts.items t.lengths.items))

  free_drop : (k : ℕ) → (is_set_for t.rows.free k || is_set_for t.rows.due.items k)
      ≡ (nat_lt k (length t.lengths.items) && not (is_occupied k (kept_lengths is_unmarked lengths_then marks_then)))
  free_drop k = elim (cases_lt k (length t.lengths.items)) [
    | inl inside ↦
        let here : nat_lt k (length t.lengths.items) ≡ true = lt-ltb k (length t.lengths.items) inside in
        let both = taken_both lengths_then marks_then k (same_count t stored) in
        let free : is_set_for t.rows.free k ≡ not (is_occupied k (kept_lengths is_unmarked lengths_then marks_then) || is_occupied k (kept_lengths is_marked lengths_then marks_then)) =
        stored.free k ∙ (ap (λ b. b && not (is_occupied k lengths_then)) here ∙ ap not both) in
        rw (here, stored.due k inside) (given_back (is_set_for t.rows.free k) _ _ free (taken_once lengths_then marks_then k (same_count t stored) apart))
    | inr past ↦
        let there : nat_lt k (length t.lengths.items) ≡ false = le-ltb k (length t.lengths.items) past in
        rw (stored.free k, there) (past_row t.rows.due.items k (omega (arith, stored.count, stored.rows.due)))
  ]

  pub AreStored-drop : (new : Inside) → new.rows ≡ s → new.lengths ≡ t.lengths → AreRows s → row_granules s ≡ row_granules t.rows
      → ((k : ℕ) → is_set_for s.free k ≡ (is_set_for t.rows.free k || is_set_for t.rows.due.items k)) → AreStored new
  AreStored-drop new rows_are items are_rows count free = record {
    rows = rw rows_are are_rows;
    count = rw (rows_are, items) (stored.count ∙ sym count);
    some = rw (rows_are, items) (λ k is. stored.some k (and_parts _ _ (sym (starts k) ∙ is)).0);
    free = rw (rows_are, items) (λ k. rw lengths_drop (free k ∙ free_drop k));
    due = rw (rows_are, items) (λ k lt. due k ∙ sym (no_marks_taken (lengths_of s.starts.items t.lengths.items) (marks_of s.starts.items s.due.items (length t.lengths.items)) k
        (λ j. marks_all_false s.starts.items s.due.items (length t.lengths.items) j (λ i. and_false (is_set_for s.starts.items i) (is_set_for s.due.items i) (due i)))
        (length-marks_of s.starts.items s.due.items (length t.lengths.items) ∙ sym (length-lengths_of s.starts.items t.lengths.items))));
  }

-- ---- the same rows once more

AreRows-same : (r s : Rows) → AreRows r → s.free ≡ r.free → s.starts.items ≡ r.starts.items → s.due.items ≡ r.due.items
    → s.due_pages.items ≡ r.due_pages.items → AreRows s
AreRows-same r s are free starts due pages = record {
  pages = are.pages;
  whole = rw starts are.whole;
  limit = rw starts are.limit;
  free = rw (starts, free) are.free;
  due = rw (starts, due) are.due;
  due_pages = rw pages are.due_pages;
  due_pages_limit = rw pages are.due_pages_limit;
  inside = rw pages are.inside;
  marked = rw (pages, due) are.marked;
}

pub AreStored-same : (t u : Inside) → AreStored t → u.lengths.items ≡ t.lengths.items → u.rows.free ≡ t.rows.free
    → u.rows.starts.items ≡ t.rows.starts.items → u.rows.due.items ≡ t.rows.due.items
    → u.rows.due_pages.items ≡ t.rows.due_pages.items → AreStored u
AreStored-same t u stored lengths free starts due pages = record {
  rows = AreRows-same t.rows u.rows stored.rows free starts due pages;
  count = rw (lengths, starts) stored.count;
  some = rw (lengths, starts) stored.some;
  free = rw (lengths, starts, free) stored.free;
  due = rw (lengths, starts, due) stored.due;
}
