-- The search for the last bit, from a place down.
use Rattle.std.proofs.Common.{◌≡◌, ◌<◌, ◌≤◌, ◌+◌, ◌-◌, ◌*◌, ◌/◌, ◌%◌, ◌^◌, ◌&&◌, nat_le, nat_lt, ℕ, suc, Bool, true, false, inl, inr, List, get_or, bit_and, sym, ap, ◌∙◌, subst, arith}
use Rattle.std.proofs.lemmas.Bool.{and_parts, cases_lt, le-leb, leb-true, lt-ltb, le-ltb, lt-leb}
use Rattle.std.proofs.Math.Bool.{and_comm}
use Rattle.std.proofs.lemmas.Nat.{leading_length}
use Rattle.std.proofs.lemmas.Nat.Bits.{bit_at_above}
use Rattle.std.specs.Int.Count.{count_leading_zeros}
use Rattle.granule_rows.proofs.WordLaws.{highest}
use Rattle.tag_memory.specs.Laws.{is_set-and, is_set_for-at, is_set_zero, same_test}
use Rattle.tag_memory.specs.Tags.{is_set, is_set_for}

-- ---- the highest bit of a word

pub highest_one : (word : ℕ) → 0 < word → word < 2 ^ 64
    → (is_set word (63 - count_leading_zeros 64 word) ≡ true) × ((k : ℕ) → 63 - count_leading_zeros 64 word < k → is_set word k ≡ false)
highest_one word some fits =
    let high = leading_length 64 word fits in
    let digits : 0 < high.0 = elim (cases_lt 0 high.0) [
      | inl more ↦ more
      | inr none ↦ (let e : high.0 ≡ 0 = omega arith in absurd (omega (arith, high.2, ap (λ (n : ℕ). 2 ^ n) e)))
    ] in
    let place : high.0 ≡ suc (63 - count_leading_zeros 64 word) = omega (arith, high.1) in (
      same_test _ 1 (highest word (63 - count_leading_zeros 64 word) (subst (λ (n : ℕ). word < 2 ^ n) place high.2) (subst (λ (n : ℕ). 2 ^ n ≤ 2 * word + 1) place high.3)),
      λ k lt. same_test _ 0 (bit_at_above word high.0 k high.2 (omega arith)),
    )

-- ---- what was passed

-- The search is at word w, of which these are the bits up to `at`, and no bit behind it, up to `at`, is 1.
pub record IsReached (row : List ℕ) (at w word : ℕ) : Type 0 where
  pub within : w ≤ at / 64
  pub bits : (j : ℕ) → j < 64 → is_set word j ≡ (nat_le (64 * w + j) at && is_set_for row (64 * w + j))
  pub behind : (k : ℕ) → 64 * w + 64 ≤ k → k ≤ at → is_set_for row k ≡ false

-- The bits up to bit `low` of a word, by their places in the row.
same_end : (at j : ℕ) → j < 64 → (nat_le 0 j && nat_lt j (at % 64 + 1)) ≡ nat_le (64 * (at / 64) + j) at
same_end at j below =
    ap (λ (b : Bool). b && nat_lt j (at % 64 + 1)) (le-leb 0 j (omega arith))
    ∙ elim (cases_lt (at % 64) j) [
      | inl past ↦ le-ltb j (at % 64 + 1) (omega arith) ∙ sym (lt-leb (64 * (at / 64) + j) at (omega arith))
      | inr inside ↦ lt-ltb j (at % 64 + 1) (omega arith) ∙ sym (le-leb (64 * (at / 64) + j) at (omega arith))
    ]

pub IsReached-first : (row : List ℕ) (at mask : ℕ) → ((j : ℕ) → j < 64 → is_set mask j ≡ (nat_le 0 j && nat_lt j (at % 64 + 1)))
    → IsReached row at (at / 64) (bit_and (get_or row (at / 64) 0) mask)
IsReached-first row at mask bits = record {
  within = omega arith;
  bits = λ j below.
      is_set-and (get_or row (at / 64) 0) mask j
      ∙ (and_comm (is_set (get_or row (at / 64) 0) j) (is_set mask j)
      ∙ (ap (λ (b : Bool). b && is_set (get_or row (at / 64) 0) j) (bits j below ∙ same_end at j below)
      ∙ ap (λ (b : Bool). nat_le (64 * (at / 64) + j) at && b) (sym (is_set_for-at row (at / 64) j below))));
  behind = λ k from le. absurd (omega arith);
}

module _ {row : List ℕ} {at w word : ℕ} (reached : IsReached row at w word) where
  -- A bit of the row is that of the word.
  here : (k : ℕ) → 64 * w ≤ k → k < 64 * w + 64 → k ≤ at → is_set_for row k ≡ is_set word (k - 64 * w)
  here k from below le =
      let e : 64 * w + (k - 64 * w) ≡ k = omega arith in
      sym (subst (λ (i : ℕ). is_set word (k - 64 * w) ≡ (nat_le i at && is_set_for row i)) e (reached.bits (k - 64 * w) (omega arith))
      ∙ ap (λ (b : Bool). b && is_set_for row k) (le-leb k at le))

  -- Where the word has none, none is at it or behind it.
  pub none_from : word ≡ 0 → (k : ℕ) → 64 * w ≤ k → k ≤ at → is_set_for row k ≡ false
  none_from none k from le = elim (cases_lt k (64 * w + 64)) [
    | inl inside ↦ here k from inside le ∙ (ap (λ (n : ℕ). is_set n (k - 64 * w)) none ∙ is_set_zero (k - 64 * w))
    | inr past ↦ reached.behind k past le
  ]

  pub IsReached-next : word ≡ 0 → 0 < w → IsReached row at (w - 1) (get_or row (w - 1) 0)
  IsReached-next none some = record {
    within = omega (arith, reached.within);
    bits = λ j below.
        ap (λ (b : Bool). b && is_set (get_or row (w - 1) 0) j) (sym (le-leb (64 * (w - 1) + j) at (omega (arith, reached.within))))
        ∙ ap (λ (b : Bool). nat_le (64 * (w - 1) + j) at && b) (sym (is_set_for-at row (w - 1) j below));
    behind = λ k from le. none_from none k (omega arith) le;
  }

  -- The highest bit of the word is the last of the row.
  pub last_of : (j : ℕ) → j < 64 → is_set word j ≡ true → ((i : ℕ) → j < i → is_set word i ≡ false)
      → (64 * w + j ≤ at) × (is_set_for row (64 * w + j) ≡ true) × ((k : ℕ) → 64 * w + j < k → k ≤ at → is_set_for row k ≡ false)
  last_of j below one above =
      let both = and_parts (nat_le (64 * w + j) at) (is_set_for row (64 * w + j)) (sym (reached.bits j below) ∙ one) in (
        leb-true (64 * w + j) at both.0,
        both.1,
        λ k more le. elim (cases_lt k (64 * w + 64)) [
          | inl inside ↦ here k (omega arith) inside le ∙ above (k - 64 * w) (omega arith)
          | inr past ↦ reached.behind k past le
        ],
      )
