-- Rows over the granules of a heap, written and given back.
use Rattle.std.proofs.Common.{◌≡◌, ◌≢◌, ◌<◌, ◌≤◌, ◌==◌, if◌then◌else◌, set, ◌+◌, ◌*◌, ◌/◌, ◌%◌, ◌^◌, ◌&&◌, ◌||◌, not, inl, inr, ℕ, Bool, true, false, List, length, get_or, ◌++◌, drop, take, refl, sym, ap, ◌∙◌, arith}
use Rattle.std.proofs.lemmas.Bool.{both_ways, cases_Bool, cases_eq, cases_lt, eq-eqb, ne_eqb, or_cases, or_parts}
use Rattle.std.proofs.Math.Bool.{and-true, or-false}
use Rattle.std.proofs.lemmas.Bool.Decides.{nat_tests}
use Rattle.std.proofs.lemmas.Grind.{get_or-set_at}
use Rattle.std.proofs.lemmas.List.{get_or-set_same, get_or_read_under, length-set}
use Rattle.granule_rows.specs.Laws.{whole_written}
use Rattle.granule_rows.specs.Runs.{is_within}
use Rattle.heap_core.proofs.EmptyLaws.{get_or-zeros, zeros}
use Rattle.heap_core.specs.Rows.{AreGiven, AreRows, row_granules}
use Rattle.heap_core.specs.declared.rows.Rows.{Rows}
use Rattle.tag_memory.specs.Laws.{is_set_for-at, is_set_for-other, is_set_zero}
use Rattle.tag_memory.specs.Tags.{is_set, is_set_for}

-- ---- a row written

-- What the slice of a whole row was made.
module _ {len : ℕ} {old now : List ℕ} (new : List ℕ) (value : now ≡ old) (long : length now ≡ len) (same : length new ≡ length now) where
  written : take len (new ++ drop (length new) old) ≡ new
  written = whole_written len old new (same ∙ long)

  pub length-written : length (take len (new ++ drop (length new) old)) ≡ length old
  length-written = ap length written ∙ (same ∙ ap length value)

  pub bits-written : (make : ℕ → Bool → Bool) → ((k : ℕ) → is_set_for new k ≡ make k (is_set_for now k))
      → (k : ℕ) → is_set_for (take len (new ++ drop (length new) old)) k ≡ make k (is_set_for old k)
  bits-written make bits k = ap (λ (xs : List ℕ). is_set_for xs k) written ∙ (bits k ∙ ap (λ (xs : List ℕ). make k (is_set_for xs k)) value)

-- ---- a block due

within_pages : (start end to k : ℕ) → to ≡ (end + 255) / 256 → is_within (start / 256) to (k / 256) ≡ false → is_within start end k ≡ false
within_pages start end to k to_is out =
    elim (cases_lt k start) [
      | inl before ↦ grind (arith, nat_tests)
      | inr from ↦ elim (cases_lt k end) [
        | inr past ↦ grind (arith, nat_tests)
        | inl inside ↦
            let low : start / 256 ≤ k / 256 = omega arith in
            let high : k / 256 < to = omega arith in
            absurd (grind (arith, nat_tests, out, low, high))
      ]
    ]

inside_pages : (start end to pages page : ℕ) → to ≡ (end + 255) / 256 → end ≤ 256 * pages → is_within (start / 256) to page ≡ true → page < pages
inside_pages start end to pages page to_is le is =
    elim (cases_lt page to) [
      | inl before ↦ omega arith
      | inr past ↦ absurd (grind (arith, nat_tests, is, past))
    ]

pub AreRows-due : (r s : Rows) (start end to : ℕ) → AreRows r → to ≡ (end + 255) / 256 → end ≤ row_granules r → s.free ≡ r.free → s.starts ≡ r.starts
    → length s.due.items ≡ length r.due.items → length s.due_pages.items ≡ length r.due_pages.items
    → ((k : ℕ) → is_set_for s.due.items k ≡ (is_within start end k || is_set_for r.due.items k))
    → ((page : ℕ) → is_set_for s.due_pages.items page ≡ (is_within (start / 256) to page || is_set_for r.due_pages.items page))
    → AreRows s
AreRows-due r s start end to rows to_is le free starts due due_pages bits page_bits =
    let count : row_granules s ≡ row_granules r = ap (λ x. 64 * length x.items) starts in
    record {
      pages = rows.pages;
      whole = count ∙ rows.whole;
      limit = omega (arith, rows.limit);
      free = omega (arith, rows.free, ap length free);
      due = due ∙ (rows.due ∙ sym (ap (λ x. length x.items) starts));
      due_pages = omega (arith, rows.due_pages);
      due_pages_limit = omega (arith, rows.due_pages_limit);
      inside = λ page set. elim (or_cases _ _ (sym (page_bits page) ∙ set)) [
        | inl new ↦ inside_pages start end to rows.pages page to_is (omega (arith, rows.whole)) new
        | inr old ↦ rows.inside page old
      ];
      marked = λ k clear.
          let none = or_parts _ _ (sym (page_bits (k / 256)) ∙ clear) in
          bits k ∙ (ap (λ b. b || is_set_for r.due.items k) (within_pages start end to k to_is none.0) ∙ rows.marked k none.1);
    }

-- ---- pages given back

given_free : (w h f : Bool) → (((w && h) || f) || (h && not w)) ≡ (f || h)
given_free false false false = refl
given_free false false true = refl
given_free false true false = refl
given_free false true true = refl
given_free true false false = refl
given_free true false true = refl
given_free true true false = refl
given_free true true true = refl

given_starts : (w h s : Bool) → ((s && not (w && h)) && not (h && not w)) ≡ (s && not h)
given_starts false false false = refl
given_starts false false true = refl
given_starts false true false = refl
given_starts false true true = refl
given_starts true false false = refl
given_starts true false true = refl
given_starts true true false = refl
given_starts true true true = refl

-- What lies in some granules is given back.
pub AreGiven-within : (r s : Rows) (test : ℕ → Bool) → row_granules s ≡ row_granules r → s.due_pages ≡ r.due_pages
    → ((k : ℕ) → is_set_for s.free k ≡ ((test k && is_set_for r.due.items k) || is_set_for r.free k))
    → ((k : ℕ) → is_set_for s.starts.items k ≡ (is_set_for r.starts.items k && not (test k && is_set_for r.due.items k)))
    → ((k : ℕ) → is_set_for s.due.items k ≡ (is_set_for r.due.items k && not (test k)))
    → AreGiven r s
AreGiven-within r s test count pages free starts due = record {
  count = count;
  marks = ap (λ x. length x.items) pages;
  free = λ k. rw (free k, due k) (given_free (test k) (is_set_for r.due.items k) (is_set_for r.free k));
  starts = λ k. rw (starts k, due k) (given_starts (test k) (is_set_for r.due.items k) (is_set_for r.starts.items k));
  due_pages = λ page clear. ap (λ x. is_set_for x.items page) pages ∙ clear;
}

pub AreGiven-none : (r : Rows) → AreGiven r r
AreGiven-none r = record { count = refl; marks = refl; free = λ k. refl; starts = λ k. refl; due_pages = λ page clear. clear }

pub AreGiven-then : {r s t : Rows} → AreGiven r s → AreGiven s t → AreGiven r t
AreGiven-then first second = record {
  count = second.count ∙ first.count;
  marks = second.marks ∙ first.marks;
  free = λ k. second.free k ∙ first.free k;
  starts = λ k. second.starts k ∙ first.starts k;
  due_pages = λ page clear. second.due_pages page (first.due_pages page clear);
}

-- One mark is taken away.
pub record IsUnmarked (old new : List ℕ) (page : ℕ) : Type 0 where
  pub long : length new ≡ length old
  pub here : is_set_for new page ≡ false
  pub rest : (p : ℕ) → p ≢ page → is_set_for new p ≡ is_set_for old p

-- A bit of the word that was read before.
pub IsUnmarked-bit : {old words : List ℕ} {w word j : ℕ} (less : ℕ) → words ≡ old → w < length old → word ≡ get_or old w word → j < 64
    → ((k : ℕ) → is_set less k ≡ (if k == j then false else is_set word k)) → IsUnmarked words (set words w less) (64 * w + j)
IsUnmarked-bit {old = old} {words = words} {w = w} {word = word} {j = j} less same_words inside read lt bits =
    let there : w < length words = omega (arith, ap length same_words) in
    let word_is : word ≡ get_or words w 0 = get_or_read_under old w (length old) word 0 read inside refl ∙ ap (λ (xs : List ℕ). get_or xs w 0) (sym same_words) in
    record {
      long = length-set words w less;
      here = is_set_for-at (set words w less) w j lt ∙ (ap (λ (x : ℕ). is_set x j) (get_or-set_same words w less 0 there) ∙ (bits j ∙ rw (eq-eqb j j refl) refl));
      rest = λ p other. elim (cases_eq (p / 64) w) [
        | inl same ↦
            ap (λ (x : ℕ). is_set x (p % 64)) (get_or-set_at words w (p / 64) less 0 same there)
            ∙ (bits (p % 64)
            ∙ rw (ne_eqb (p % 64) j (λ e. other (omega (arith, e, same)))) (ap (λ (x : ℕ). is_set x (p % 64)) (word_is ∙ ap (λ (i : ℕ). get_or words i 0) (sym same))))
        | inr away ↦ is_set_for-other words w less p away
      ];
    }

-- The mark of a page is taken away whose granules are given back.
pub AreRows-unmarked : (r s : Rows) (page : ℕ) → AreRows r → ((k : ℕ) → k / 256 ≡ page → is_set_for r.due.items k ≡ false)
    → s.free ≡ r.free → s.starts ≡ r.starts → s.due ≡ r.due → IsUnmarked r.due_pages.items s.due_pages.items page → AreRows s
AreRows-unmarked r s page rows gone free starts due marks =
    let count : row_granules s ≡ row_granules r = ap (λ x. 64 * length x.items) starts in
    record {
      pages = rows.pages;
      whole = count ∙ rows.whole;
      limit = omega (arith, rows.limit);
      free = omega (arith, rows.free, ap length free);
      due = ap (λ x. length x.items) due ∙ (rows.due ∙ sym (ap (λ x. length x.items) starts));
      due_pages = omega (arith, rows.due_pages, marks.long);
      due_pages_limit = omega (arith, rows.due_pages_limit, marks.long);
      inside = λ p set. elim (cases_eq p page) [
        | inl same ↦ absurd (both_ways _ (ap (is_set_for s.due_pages.items) same ∙ marks.here) set)
        | inr other ↦ rows.inside p (sym (marks.rest p other) ∙ set)
      ];
      marked = λ k clear. ap (λ x. is_set_for x.items k) due
          ∙ elim (cases_eq (k / 256) page) [
            | inl same ↦ gone k same
            | inr other ↦ rows.marked k (sym (marks.rest (k / 256) other) ∙ clear)
          ];
    }

pub AreGiven-unmarked : (r s : Rows) (page : ℕ) → s.free ≡ r.free → s.starts ≡ r.starts → s.due ≡ r.due
    → IsUnmarked r.due_pages.items s.due_pages.items page → AreGiven r s
AreGiven-unmarked r s page free starts due marks = record {
  count = ap (λ x. 64 * length x.items) starts;
  marks = marks.long;
  free = λ k. rw (free, due) refl;
  starts = λ k. rw (starts, due) refl;
  due_pages = λ p clear. elim (cases_eq p page) [
    | inl same ↦ ap (is_set_for s.due_pages.items) same ∙ marks.here
    | inr other ↦ marks.rest p other ∙ clear
  ];
}

-- ---- no page is marked

none_marked : {r : Rows} → AreRows r → ((page : ℕ) → page / 64 < length r.due_pages.items → is_set_for r.due_pages.items page ≡ false)
    → (page : ℕ) → is_set_for r.due_pages.items page ≡ false
none_marked {r = r} rows clear page = elim (cases_Bool (is_set_for r.due_pages.items page)) [
  | inl set ↦ clear page (omega (arith, rows.inside page set, rows.due_pages))
  | inr none ↦ none
]

pub nothing_held : {r : Rows} → AreRows r → ((page : ℕ) → page / 64 < length r.due_pages.items → is_set_for r.due_pages.items page ≡ false)
    → (k : ℕ) → is_set_for r.due.items k ≡ false
nothing_held rows clear k = rows.marked k (none_marked rows clear (k / 256))

pub word_of_zero : (words : List ℕ) (w : ℕ) → get_or words w 0 ≡ 0 → (page : ℕ) → page / 64 ≡ w → is_set_for words page ≡ false
word_of_zero words w zero page at = ap (λ (i : ℕ). is_set (get_or words i 0) (page % 64)) at ∙ (ap (λ (x : ℕ). is_set x (page % 64)) zero ∙ is_set_zero (page % 64))

-- What is left once nothing is due.
pub given_all_free : {r s : Rows} → AreGiven r s → ((k : ℕ) → is_set_for s.due.items k ≡ false) → (k : ℕ)
    → is_set_for s.free k ≡ (is_set_for r.free k || is_set_for r.due.items k)
given_all_free {s = s} given none k = sym (or-false (is_set_for s.free k)) ∙ (ap (λ b. is_set_for s.free k || b) (sym (none k)) ∙ given.free k)

pub given_all_starts : {r s : Rows} → AreGiven r s → ((k : ℕ) → is_set_for s.due.items k ≡ false) → (k : ℕ)
    → is_set_for s.starts.items k ≡ (is_set_for r.starts.items k && not (is_set_for r.due.items k))
given_all_starts {s = s} given none k = sym (and-true (is_set_for s.starts.items k)) ∙ (ap (λ b. is_set_for s.starts.items k && not b) (sym (none k)) ∙ given.starts k)

-- ---- no block

pub AreRows-new : (r : Rows) (n : ℕ) → n ≤ 2 ^ 18 → n % 256 ≡ 0 → n / 64 ≤ length r.free → length r.starts.items ≡ n / 64 → length r.due.items ≡ n / 64
    → length r.due_pages.items ≡ (n / 256 + 63) / 64 → ((k : ℕ) → is_set_for r.due.items k ≡ false) → ((page : ℕ) → is_set_for r.due_pages.items page ≡ false)
    → AreRows r
AreRows-new r n limit whole free starts due due_pages none no_marks = record {
  pages = n / 256;
  whole = omega arith;
  limit = omega arith;
  free = omega arith;
  due = omega arith;
  due_pages = omega arith;
  due_pages_limit = omega arith;
  inside = λ page set. absurd (both_ways _ (no_marks page) set);
  marked = λ k clear. none k;
}

pub no_bits : (words : List ℕ) (n k : ℕ) → words ≡ zeros n → is_set_for words k ≡ false
no_bits words n k zeros = ap (λ (xs : List ℕ). is_set_for xs k) zeros ∙ (ap (λ (x : ℕ). is_set x (k % 64)) (get_or-zeros n (k / 64)) ∙ is_set_zero (k % 64))
