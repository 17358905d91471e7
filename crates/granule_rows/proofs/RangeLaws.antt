-- Bits of a row set and cleared by ranges.
use Rattle.std.proofs.Common.{◌≡◌, ◌<◌, ◌≤◌, ◌+◌, ◌*◌, ◌-◌, ◌/◌, ◌%◌, ◌^◌, inl, inr, nat_le, nat_lt, ◌&&◌, not, min, ℕ, Bool, true, false, List, length, get_or, set, bit_and, refl, sym, ap, ◌∙◌, subst, arith}
use Rattle.std.proofs.lemmas.Bool.{cases_lt}
use Rattle.std.proofs.lemmas.Bool.Decides.{nat_tests}
use Rattle.std.proofs.lemmas.List.{get_or-set_other, get_or-set_same}
use Rattle.std.proofs.lemmas.Nat.{mod_low, pow-add, pow_below, pow_pos, shr_high}
use Rattle.std.proofs.lemmas.Nat.Bits.{bit_at_and, bit_at_mask_below, bit_at_mask_inside, bit_at_ones, bit_at_ones_above}
use Rattle.std.specs.Int.{bit_at}
use Rattle.granule_rows.specs.Runs.{is_within}
use Rattle.tag_memory.specs.Laws.{is_set_for-at, same_test}
use Rattle.tag_memory.specs.Tags.{is_set, is_set_for}

-- ---- words

-- All ones, shifted down to the lowest `high`, or up from `low` on.
ones_low : (high : ℕ) → high ≤ 64 → (2 ^ 64 - 1) / 2 ^ (64 - high) ≡ 2 ^ high - 1
ones_low high le =
    let whole : 2 ^ (high + (64 - high)) ≡ 2 ^ high * 2 ^ (64 - high) = pow-add 2 high (64 - high) in
    let all : high + (64 - high) ≡ 64 = omega arith in
    let product : 2 ^ 64 ≡ 2 ^ high * 2 ^ (64 - high) = subst (λ n. 2 ^ n ≡ 2 ^ high * 2 ^ (64 - high)) all whole in
    let some : 0 < 2 ^ high = pow_pos high in
    let rest : 0 < 2 ^ (64 - high) = pow_pos (64 - high) in
    let less : (2 ^ high - 1 + 1) * 2 ^ (64 - high) ≡ (2 ^ high - 1) * 2 ^ (64 - high) + 2 ^ (64 - high) = omega arith in
    let one : 2 ^ high - 1 + 1 ≡ 2 ^ high = omega arith in
    let split : 2 ^ 64 - 1 ≡ (2 ^ high - 1) * 2 ^ (64 - high) + (2 ^ (64 - high) - 1) = omega (arith, rw one at less, product, rest) in
    rw split (shr_high (2 ^ high - 1) (64 - high) (2 ^ (64 - high) - 1) (omega arith))

ones_high : (low : ℕ) → low < 64 → (2 ^ 64 - 1) * 2 ^ low % 2 ^ 64 ≡ 2 ^ 64 - 2 ^ low
ones_high low lt =
    let some : 0 < 2 ^ low = pow_pos low in
    let fits : 2 ^ low < 2 ^ 64 = pow_below low 64 lt in
    let split : (2 ^ 64 - 1) * 2 ^ low ≡ (2 ^ low - 1) * 2 ^ 64 + (2 ^ 64 - 2 ^ low) = omega arith in
    rw split (mod_low (2 ^ low - 1) 64 (2 ^ 64 - 2 ^ low) (omega arith))

-- The bits from `low` to before `high`.
pub is_set-run : (low high j : ℕ) → low < 64 → high ≤ 64 → j < 64
    → is_set (bit_and ((2 ^ 64 - 1) / 2 ^ (64 - high)) ((2 ^ 64 - 1) * 2 ^ low % 2 ^ 64)) j ≡ (nat_le low j && nat_lt j high)
is_set-run low high j low_lt high_le lt =
    let word = bit_and ((2 ^ 64 - 1) / 2 ^ (64 - high)) ((2 ^ 64 - 1) * 2 ^ low % 2 ^ 64) in
    let both : bit_at (bit_and ((2 ^ 64 - 1) / 2 ^ (64 - high)) ((2 ^ 64 - 1) * 2 ^ low % 2 ^ 64)) j ≡ min (bit_at (2 ^ high - 1) j) (bit_at (2 ^ 64 - 2 ^ low) j) =
    rw (ones_low high high_le, ones_high low low_lt) (bit_at_and (2 ^ high - 1) (2 ^ 64 - 2 ^ low) j) in
    elim (cases_lt j high) [
      | inl below ↦ elim (cases_lt j low) [
        | inl less ↦ same_test (bit_at word j) 0 (omega (arith, both, bit_at_ones high j below, bit_at_mask_below low 64 j less)) ∙ grind (arith, nat_tests)
        | inr from ↦ same_test (bit_at word j) 1 (omega (arith, both, bit_at_ones high j below, bit_at_mask_inside low 64 j from lt)) ∙ grind (arith, nat_tests)
      ]
      | inr past ↦ same_test (bit_at word j) 0 (omega (arith, both, bit_at_ones_above high j past)) ∙ grind (arith, nat_tests)
    ]

-- Bits of a word, as granules of the row.
pub in_run : (first end w j low high : ℕ) → j < 64 → low ≡ first - 64 * w → high ≡ min (end - 64 * w) 64 → 64 * w < end → first < 64 * w + 64
    → (nat_le low j && nat_lt j high) ≡ (nat_le first (64 * w + j) && nat_lt (64 * w + j) end)
in_run first end w j low high lt low_is high_is more reaches =
    elim (cases_lt (64 * w + j) first) [
      | inl before ↦ grind (arith, nat_tests)
      | inr from ↦ elim (cases_lt (64 * w + j) end) [
        | inl inside ↦ (let within : j < high = omega arith in let least : low ≤ j = omega arith in grind (arith, nat_tests))
        | inr past ↦ (let beyond : high ≤ j = omega arith in grind (arith, nat_tests))
      ]
    ]

-- ---- a row, word by word

-- The words before w are made as a test says of each bit what it is, from what it was; the others are as before.
pub record AreMade (make : ℕ → Bool → Bool) (words initial : List ℕ) (from to : ℕ) : Type 0 where
  pub made : (w : ℕ) → from ≤ w → w < to → (j : ℕ) → j < 64 → is_set (get_or words w 0) j ≡ make (64 * w + j) (is_set (get_or initial w 0) j)
  pub rest : (w : ℕ) → (from ≤ w → to ≤ w) → get_or words w 0 ≡ get_or initial w 0

pub AreMade-none : (make : ℕ → Bool → Bool) (words : List ℕ) (from : ℕ) → AreMade make words words from from
AreMade-none make words from = record { made = λ w le lt. absurd (omega arith); rest = λ w h. refl }

pub AreMade-more : (make : ℕ → Bool → Bool) (words initial : List ℕ) (from w x : ℕ) → AreMade make words initial from w → from ≤ w → w < length words
    → ((j : ℕ) → j < 64 → is_set x j ≡ make (64 * w + j) (is_set (get_or words w 0) j)) → AreMade make (set words w x) initial from (w + 1)
AreMade-more make words initial from w x so_far le inside here = record {
  made = λ v v_from v_to j lt. elim (cases_lt v w) [
    | inl before ↦ ap (λ (word : ℕ). is_set word j) (get_or-set_other words w v x 0 (λ e. absurd (omega arith))) ∙ so_far.made v v_from before j lt
    | inr behind ↦
        let e : w ≡ v = omega arith in
        subst (λ (u : ℕ). is_set (get_or (set words w x) u 0) j ≡ make (64 * u + j) (is_set (get_or initial u 0) j)) e
        (ap (λ (word : ℕ). is_set word j) (get_or-set_same words w x 0 inside) ∙ (here j lt ∙ ap (λ (word : ℕ). make (64 * w + j) (is_set word j)) (so_far.rest w (λ h. omega arith))))
  ];
  rest = λ v h. get_or-set_other words w v x 0 (λ e. absurd (omega arith)) ∙ so_far.rest v (λ v_from. omega arith);
}

-- All words that a range reaches are made, and the test leaves the bits outside the range.
pub AreMade-all : (make : ℕ → Bool → Bool) (words initial : List ℕ) (first end : ℕ) → AreMade make words initial (first / 64) ((end + 63) / 64)
    → ((k : ℕ) (b : Bool) → k < first → make k b ≡ b) → ((k : ℕ) (b : Bool) → end ≤ k → make k b ≡ b)
    → (k : ℕ) → is_set_for words k ≡ make k (is_set_for initial k)
AreMade-all make words initial first end done before behind k =
    let place : 64 * (k / 64) + k % 64 ≡ k = omega arith in
    let keep : make k (is_set_for initial k) ≡ is_set_for initial k → (first / 64 ≤ k / 64 → (end + 63) / 64 ≤ k / 64) → is_set_for words k ≡ make k (is_set_for initial k) =
    λ same out. ap (λ (word : ℕ). is_set word (k % 64)) (done.rest (k / 64) out) ∙ sym same in
    elim (cases_lt (k / 64) (first / 64)) [
      | inl low ↦ keep (before k _ (omega arith)) (λ h. absurd (omega arith))
      | inr from ↦ elim (cases_lt (k / 64) ((end + 63) / 64)) [
        | inr high ↦ keep (behind k _ (omega arith)) (λ h. high)
        | inl to ↦ subst (λ (i : ℕ). is_set_for words k ≡ make i (is_set_for initial k)) place (done.made (k / 64) from to (k % 64) (omega arith))
      ]
    ]

-- And so where whole words are made.
pub AreMade-words : (make : ℕ → Bool → Bool) (words initial : List ℕ) (first end : ℕ) → AreMade make words initial first end
    → ((k : ℕ) (b : Bool) → k < 64 * first → make k b ≡ b) → ((k : ℕ) (b : Bool) → 64 * end ≤ k → make k b ≡ b)
    → (k : ℕ) → is_set_for words k ≡ make k (is_set_for initial k)
AreMade-words make words initial first end done before behind k =
    let from : first ≡ 64 * first / 64 = omega arith in
    let to : end ≡ (64 * end + 63) / 64 = omega arith in
    AreMade-all make words initial (64 * first) (64 * end)
    (subst (λ (a : ℕ). AreMade make words initial a ((64 * end + 63) / 64)) from
    (subst (λ (z : ℕ). AreMade make words initial first z) to done))
    before behind k

-- The bits of a word that lies in a range of words.
pub in_words : (other : List ℕ) (first end w j : ℕ) → first ≤ w → w < end → j < 64
    → (is_within (64 * first) (64 * end) (64 * w + j) && is_set_for other (64 * w + j)) ≡ is_set (get_or other w 0) j
in_words other first end w j from to lt =
    let low : 64 * first ≤ 64 * w + j = omega arith in
    let high : 64 * w + j < 64 * end = omega arith in
    let same = is_set_for-at other w j lt in
    grind (arith, nat_tests, same)

pub out_before : (bit : Bool) (first end k : ℕ) → k < 64 * first → (is_within (64 * first) (64 * end) k && bit) ≡ false
out_before bit first end k lt = grind (arith, nat_tests)

pub out_behind : (bit : Bool) (first end k : ℕ) → 64 * end ≤ k → (is_within (64 * first) (64 * end) k && bit) ≡ false
out_behind bit first end k le = grind (arith, nat_tests)

-- A bit stays that nothing clears.
pub kept_by : (b t : Bool) → t ≡ false → (b && not t) ≡ b
kept_by false t none = refl
kept_by true t none = ap not none
