-- Masks, bit by bit.
use Rattle.std.proofs.Common.{◌≡◌, ◌<◌, ◌*◌, ◌%◌, ◌^◌, ◌==◌, if◌then◌else◌, inl, inr, refl, ap, ℕ, Bool, true, false, bit_or, w64, sym, ◌∙◌, arith}
use Rattle.std.proofs.lemmas.Bool.{both_ways, cases_eq, eq-eqb, ne_eqb}
use Rattle.std.specs.Int.{bit_at}
use Rattle.std.proofs.lemmas.Nat.Bits.{bit_at-zero, bit_at_or}
use mir.Val.{bool_byte}
use Rattle.tag_memory.specs.Laws.{is_set-other, is_set-same, same_test}
use Rattle.tag_memory.specs.Tags.{is_set}

-- A bit that was 0 is put.
pub is_set-joined : (mask j k : ℕ) (hit : Bool) → j < 64 → k < 64 → is_set mask j ≡ false
    → is_set (bit_or mask (bool_byte hit * 2 ^ j % 2 ^ 64)) k ≡ (if k == j then hit else is_set mask k)
is_set-joined mask j k true hj hk unset = elim (cases_eq k j) [
  | inl same ↦ rw (eq-eqb k j same) (rw same (is_set-same w64 mask j hj))
  | inr other ↦ rw (ne_eqb k j other) (is_set-other w64 mask j hj k other)
]
is_set-joined mask j k false hj hk unset =
    let none : 0 * 2 ^ j % 2 ^ 64 ≡ 0 = omega arith in
    let or = bit_at_or mask 0 k in
    let zeros = bit_at-zero k in
    let here : is_set (bit_or mask (0 * 2 ^ j % 2 ^ 64)) k ≡ is_set mask k = same_test _ _ (ap (λ (n : ℕ). bit_at (bit_or mask n) k) none ∙ omega (arith, or, zeros)) in
    here ∙ elim (cases_eq k j) [
      | inl same ↦ rw (eq-eqb k j same) (ap (is_set mask) same ∙ unset)
      | inr other ↦ rw (ne_eqb k j other) refl
    ]

-- Tags of 64 granules are looked at one by one: those left are of tagged granules, with the mask's bit still 0, and for all
-- others the mask is made.
pub record AreTagsLeft (tagged hit : ℕ → Bool) (rest mask : ℕ) : Type 0 where
  pub left : (k : ℕ) → k < 64 → is_set rest k ≡ true → tagged k ≡ true
  pub unset : (k : ℕ) → k < 64 → is_set rest k ≡ true → is_set mask k ≡ false
  pub made : (k : ℕ) → k < 64 → is_set rest k ≡ false → is_set mask k ≡ hit k

-- One of them is looked at.
pub AreTagsLeft-less : (tagged hit : ℕ → Bool) (rest mask less more j : ℕ) (is_hit : Bool) → AreTagsLeft tagged hit rest mask → j < 64 → is_set rest j ≡ true
    → ((k : ℕ) → is_set less k ≡ (if k == j then false else is_set rest k))
    → ((k : ℕ) → k < 64 → is_set more k ≡ (if k == j then is_hit else is_set mask k))
    → (tagged j ≡ true → is_hit ≡ hit j) → AreTagsLeft tagged hit less more
AreTagsLeft-less tagged hit rest mask less more j is_hit are below one without with_one is = record {
  left = λ k lt. elim (cases_eq k j) [
    | inl same ↦ λ set. absurd (both_ways (is_set less k) (without k ∙ rw (eq-eqb k j same) refl) set)
    | inr other ↦ λ set. are.left k lt (sym (without k ∙ rw (ne_eqb k j other) refl) ∙ set)
  ];
  unset = λ k lt. elim (cases_eq k j) [
    | inl same ↦ λ set. absurd (both_ways (is_set less k) (without k ∙ rw (eq-eqb k j same) refl) set)
    | inr other ↦ λ set. with_one k lt ∙ rw (ne_eqb k j other) (are.unset k lt (sym (without k ∙ rw (ne_eqb k j other) refl) ∙ set))
  ];
  made = λ k lt. elim (cases_eq k j) [
    | inl same ↦ λ unset. with_one k lt ∙ (rw (eq-eqb k j same) (is (are.left j below one)) ∙ ap hit (sym same))
    | inr other ↦ λ unset. with_one k lt ∙ (rw (ne_eqb k j other) (are.made k lt (sym (without k ∙ rw (ne_eqb k j other) refl) ∙ unset)))
  ];
}
