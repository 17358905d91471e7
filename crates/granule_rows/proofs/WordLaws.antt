-- Runs of ones in words.
use Rattle.std.proofs.Common.{◌≡◌, ◌≢◌, ◌<◌, ◌≤◌, ◌+◌, ◌-◌, ◌*◌, ◌/◌, ◌%◌, ◌^◌, ℕ, zero, suc, true, false, inl, inr, refl, sym, ap, ◌∙◌, subst, arith, bit_and, w64}
use Rattle.std.proofs.lemmas.Bool.{and_from, and_parts, both_ways, cases_lt}
use Rattle.std.proofs.lemmas.Nat.{and_le_l, div_below, le-div, leading_length, pow_pos, shr-shr}
use Rattle.std.proofs.lemmas.Nat.Bits.{bit_at_above, bit_at_ones, bit_at-trailing_zeros}
use Rattle.std.specs.Int.Count.{count_leading_zeros}
use Rattle.std.specs.Int.{bit_at, bit_not, leading_zeros, trailing_zeros}
use Rattle.granule_rows.specs.Runs.{AreSet, HasRun, IsFirst}
use Rattle.granule_rows.specs.Starts.{AreStarts, IsNearLongest}
use Rattle.granule_rows.specs.Tree.{IsLeaf}
use Rattle.granule_rows.specs.declared.summary.Summary.{Summary}
use Rattle.granule_rows.specs.declared.word.Starts.{Starts}
use Rattle.tag_memory.specs.Laws.{clear_from_not, is_set-and, is_set_zero, same_test, set_from_not}
use Rattle.tag_memory.specs.Tags.{is_set}

-- ---- bits

pub is_set-shr : (t s i : ℕ) → is_set (t / 2 ^ s) i ≡ is_set t (s + i)
is_set-shr t s i = same_test _ _ (ap (λ (x : ℕ). x % 2) (shr-shr t s i))

-- a word has no bit from 64 on
pub set_below : (word i : ℕ) → word < 2 ^ 64 → is_set word i ≡ true → i < 64
set_below word i fits set = elim (cases_lt i 64) [
  | inl below ↦ below
  | inr past ↦ absurd (both_ways _ (same_test _ 0 (bit_at_above word 64 i fits past)) set)
]

-- the lowest one
pub lowest : (t : ℕ) → 0 < t → t < 2 ^ 64 → (trailing_zeros w64 t < 64) × (is_set t (trailing_zeros w64 t) ≡ true) × ((i : ℕ) → i < trailing_zeros w64 t → is_set t i ≡ false)
lowest t some fits =
    let h = bit_at-trailing_zeros w64 t some fits in
    (h.0, same_test _ 1 h.1, λ i lt. same_test _ 0 (h.2 i lt))

-- ---- where runs start

pub AreStarts-one : (word : ℕ) → AreStarts word word 1
AreStarts-one word = record {
  runs = λ i set. record { each = λ k le lt. (let e : i ≡ k = omega arith in subst (λ (j : ℕ). is_set word j ≡ true) e set) };
  all = λ i run. run.each i (omega arith) (omega arith);
}

-- runs that follow each other, or overlap
pub AreStarts-more : (word t u m n s long : ℕ) → AreStarts word t m → AreStarts word u n → s ≤ m → m ≤ long → long ≡ s + n
    → AreStarts word (bit_and t (u / 2 ^ s)) long
AreStarts-more word t u m n s long first second le fine is = record {
  runs = λ i set.
      let parts = and_parts _ _ (sym (is_set-and t (u / 2 ^ s) i) ∙ set) in
      let low = first.runs i parts.0 in
      let high = second.runs (s + i) (sym (is_set-shr u s i) ∙ parts.1) in
      record {
        each = λ k from to. elim (cases_lt k (i + m)) [
          | inl before ↦ low.each k from before
          | inr behind ↦ high.each k (omega arith) (omega arith)
        ];
      };
  all = λ i run.
      let low = first.all i (record { each = λ k from to. run.each k from (omega arith) }) in
      let high = second.all (s + i) (record { each = λ k from to. run.each k (omega arith) (omega arith) }) in
      is_set-and t (u / 2 ^ s) i ∙ and_from _ _ low (is_set-shr u s i ∙ high);
}

pub AreStarts-twice : (word t n : ℕ) → AreStarts word t n → AreStarts word (bit_and t (t / 2 ^ n)) (n + n)
AreStarts-twice word t n starts = AreStarts-more word t t n n n (n + n) starts starts (omega arith) (omega arith) refl

pub no_starts : (word t n : ℕ) → AreStarts word t n → t ≡ 0 → (q : ℕ) → AreSet (is_set word) q n → ⊥
no_starts word t n starts none q run =
    both_ways _ (ap (λ (x : ℕ). is_set x q) none ∙ is_set_zero q) (starts.all q run)

pub first_start : (word t n : ℕ) → AreStarts word t n → 0 < t → t < 2 ^ 64 → IsFirst (is_set word) 0 n (trailing_zeros w64 t)
first_start word t n starts some fits =
    let low = lowest t some fits in
    record {
      run = starts.runs _ low.1;
      after = omega arith;
      least = λ q from run. elim (cases_lt q (trailing_zeros w64 t)) [
        | inl before ↦ absurd (both_ways _ (low.2 q before) (starts.all q run))
        | inr behind ↦ behind
      ];
    }

pub run_fits : (word q n : ℕ) → word < 2 ^ 64 → AreSet (is_set word) q n → 0 < n → q + n ≤ 64
run_fits word q n fits run some =
    let last = set_below word (q + n - 1) fits (run.each (q + n - 1) (omega arith) (omega arith)) in
    omega (arith, last)

-- ---- the longest one

pub HasRun-none : (word : ℕ) → HasRun (is_set word) 0
HasRun-none word = record { at = 0; run = record { each = λ k from to. absurd (omega arith) } }

pub HasRun-start : (word t n : ℕ) → AreStarts word t n → 0 < t → t < 2 ^ 64 → HasRun (is_set word) n
HasRun-start word t n starts some fits = record { at = _; run = (first_start word t n starts some fits).run }

pub HasRun-fits : (word n : ℕ) → word < 2 ^ 64 → HasRun (is_set word) n → n ≤ 64
HasRun-fits word zero fits has = omega arith
HasRun-fits word (suc n) fits has = omega (arith, run_fits word has.at (suc n) fits has.run (omega arith))

pub IsNearLongest-one : (word : ℕ) → 0 < word → word < 2 ^ 64 → IsNearLongest word (record { bits = word; length = 1 }) 64
IsNearLongest-one word some fits = record {
  starts = AreStarts-one word;
  some = some;
  most = λ q n run. omega (arith, HasRun-fits word n fits (record { at = q; run = run }));
}

-- Runs that are longer by `more`, or none.
module _ {word added more : ℕ} {s : Starts} (near : IsNearLongest word s (2 * more)) (starts : AreStarts word added more) where
  longer_starts : AreStarts word (bit_and s.bits (added / 2 ^ s.length)) (s.length + more)
  longer_starts = AreStarts-more word s.bits added s.length more s.length (s.length + more) near.starts starts (omega arith) (omega arith) refl

  pub IsNearLongest-longer : 0 < bit_and s.bits (added / 2 ^ s.length) → IsNearLongest word (record { bits = bit_and s.bits (added / 2 ^ s.length); length = s.length + more }) more
  IsNearLongest-longer some = record { starts = longer_starts; some = some; most = λ q n run. omega (arith, near.most q n run) }

  pub IsNearLongest-same : bit_and s.bits (added / 2 ^ s.length) ≡ 0 → IsNearLongest word s more
  IsNearLongest-same none = record {
    starts = near.starts;
    some = near.some;
    most = λ q n run. elim (cases_lt n (s.length + more)) [
      | inl fine ↦ fine
      | inr past ↦ absurd (no_starts word _ (s.length + more) longer_starts none q (record { each = λ k from to. run.each k from (omega arith) }))
    ];
  }

-- Some run of a word is the longest: runs of n ones start somewhere, and there are `more` lengths left.
longest_from : (word t n more : ℕ) → word < 2 ^ 64 → AreStarts word t n → 0 < t → t < 2 ^ 64 → 65 ≤ n + more
    → (m : ℕ) × HasRun (is_set word) m × ((q k : ℕ) → AreSet (is_set word) q k → k ≤ m)
longest_from word t n zero fits starts some t_fits room = absurd (omega (arith, HasRun-fits word n fits (HasRun-start word t n starts some t_fits)))
longest_from word t n (suc more) fits starts some t_fits room =
    let next = AreStarts-more word t word n 1 n (n + 1) starts (AreStarts-one word) (omega arith) (omega arith) refl in
    elim (cases_lt 0 (bit_and t (word / 2 ^ n))) [
      | inl longer ↦ longest_from word (bit_and t (word / 2 ^ n)) (n + 1) more fits next longer (omega (arith, and_le_l t (word / 2 ^ n))) (omega arith)
      | inr none ↦ (
        n,
        HasRun-start word t n starts some t_fits,
        λ q k run. elim (cases_lt n k) [
          | inl past ↦ absurd (no_starts word _ (n + 1) next (omega arith) q (record { each = λ j from to. run.each j from (omega arith) }))
          | inr fine ↦ fine
        ],
      )
    ]

longest_of : (word : ℕ) → word < 2 ^ 64 → (m : ℕ) × HasRun (is_set word) m × ((q k : ℕ) → AreSet (is_set word) q k → k ≤ m)
longest_of word fits = elim (cases_lt 0 word) [
  | inl some ↦ longest_from word word 1 64 fits (AreStarts-one word) some fits (omega arith)
  | inr none ↦ (
    0,
    HasRun-none word,
    λ q k run. elim (cases_lt 0 k) [
      | inl past ↦ absurd (no_starts word word 1 (AreStarts-one word) (omega arith) q (record { each = λ j from to. run.each j from (omega arith) }))
      | inr fine ↦ fine
    ],
  )
]

-- ---- the summary

pub IsLeaf-full : (word : ℕ) → word < 2 ^ 64 → bit_not w64 word ≡ 0 → IsLeaf word (record { length = 64; prefix = 64; longest = 64; suffix = 64 })
IsLeaf-full word fits none =
    let whole : word ≡ 2 ^ 64 - 1 = omega arith in
    let set : (k : ℕ) → k < 64 → is_set word k ≡ true = λ k lt. same_test _ 1 (ap (λ (x : ℕ). bit_at x k) whole ∙ bit_at_ones 64 k lt) in
    record {
      length = refl;
      summary = record {
        prefix_within = omega arith;
        prefix_set = λ k le lt. set k (omega arith);
        prefix_ends = λ lt. absurd (omega arith);
        suffix_within = omega arith;
        suffix_set = λ k le lt. set k (omega arith);
        suffix_ends = λ k le e. absurd (omega arith);
        longest_at = 0;
        longest_from = omega arith;
        longest_end = omega arith;
        longest_set = λ k le lt. set k (omega arith);
        longest_most = λ q n from to run. omega arith;
      };
    }

-- the highest one of a number that has m digits
pub highest : (a m : ℕ) → a < 2 ^ suc m → 2 ^ suc m ≤ 2 * a + 1 → bit_at a m ≡ 1
highest a m lt le =
    let some : 0 < 2 ^ m = pow_pos m in
    let twice : 2 ^ suc m ≡ 2 * 2 ^ m = omega arith in
    let one : a / 2 ^ m ≡ 1 = omega (arith, le-div 1 a (2 ^ m) some (omega arith), div_below a (2 ^ m) 2 some (omega arith)) in
    ap (λ (x : ℕ). x % 2) one

longest_place : (word n : ℕ) → word < 2 ^ 64 → HasRun (is_set word) n → (at : ℕ) × (0 ≤ at) × (at + n ≤ 0 + 64) × ((k : ℕ) → at ≤ k → k < at + n → is_set word k ≡ true)
longest_place word zero fits has = (0, omega arith, omega arith, λ k le lt. absurd (omega arith))
longest_place word (suc n) fits has = (has.at, omega arith, omega (arith, run_fits word has.at (suc n) fits has.run (omega arith)), has.run.each)

pub IsLeaf-part : (word longest : ℕ) → word < 2 ^ 64 → bit_not w64 word ≢ 0 → HasRun (is_set word) longest → ((q n : ℕ) → AreSet (is_set word) q n → n ≤ longest)
    → IsLeaf word (record { length = 64; prefix = trailing_zeros w64 (bit_not w64 word); longest = longest; suffix = leading_zeros w64 (bit_not w64 word) })
IsLeaf-part word longest fits some has most =
    let z : ℕ = bit_not w64 word in
    let z_some : 0 < bit_not w64 word = omega arith in
    let z_fits : bit_not w64 word < 2 ^ 64 = omega arith in
    let low = bit_at-trailing_zeros w64 (bit_not w64 word) z_some z_fits in
    let high = leading_length 64 (bit_not w64 word) z_fits in
    let place = longest_place word longest fits has in
    record {
      length = refl;
      summary = record {
        prefix_within = omega (arith, low.0);
        prefix_set = λ k le lt. set_from_not word k fits (omega (arith, low.0)) (same_test _ 0 (low.2 k (omega arith)));
        prefix_ends = λ lt. (let e : trailing_zeros w64 (bit_not w64 word) ≡ 0 + trailing_zeros w64 (bit_not w64 word) = omega arith in
            subst (λ (k : ℕ). is_set word k ≡ false) e (clear_from_not word _ fits low.0 (same_test _ 1 low.1)));
        suffix_within = omega (arith, high.1);
        suffix_set = λ k le lt. set_from_not word k fits (omega arith) (same_test _ 0 (bit_at_above (bit_not w64 word) high.0 k high.2 (omega (arith, high.1))));
        suffix_ends = λ k le e. (let m : high.0 ≡ suc k = omega (arith, high.1) in
            clear_from_not word k fits (omega arith)
            (same_test _ 1 (highest (bit_not w64 word) k (subst (λ (n : ℕ). bit_not w64 word < 2 ^ n) m high.2) (subst (λ (n : ℕ). 2 ^ n ≤ 2 * bit_not w64 word + 1) m high.3))));
        longest_at = place.0;
        longest_from = place.1;
        longest_end = place.2;
        longest_set = place.3;
        longest_most = λ q n from to run. most q n run;
      };
    }

-- The summary of a word ends with its highest ones.
full_ones : 64 ≡ leading_zeros w64 0
unfolding count_leading_zeros
full_ones = refl

pub leaf_ones : (word : ℕ) → word < 2 ^ 64 → (s : Summary) × IsLeaf word s × (s.suffix ≡ leading_zeros w64 (bit_not w64 word))
leaf_ones word fits = elim (cases_lt 0 (bit_not w64 word)) [
  | inr none ↦ (let full : bit_not w64 word ≡ 0 = omega arith in (_, IsLeaf-full word fits full, full_ones ∙ sym (ap (leading_zeros w64) full)))
  | inl some ↦ (let long = longest_of word fits in (_, IsLeaf-part word long.0 fits (λ e. absurd (omega (arith, e))) long.1 long.2, refl))
]
