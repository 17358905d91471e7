-- What the crates above need of bits in words: a bit that is set, a row of words that is made word by
-- word, and the ones of a word.
use Rattle.std.proofs.Common.{◌≡◌, ◌≢◌, ℕ, zero, suc, ◌+◌, ◌-◌, ◌*◌, ◌/◌, ◌%◌, ◌^◌, ◌==◌, ◌<◌, ◌&&◌, ◌||◌, if◌then◌else◌, min, max, not, inl, inr, Bool, true, false, List, length, get_or, map, set, refl, sym, ap, ◌∙◌, subst, arith, bit_and, bit_or, w64}
use native.Mathlib.Decide.{ℕ_discrete}
use mathlib.Core.Logic.{dite}
use Rattle.std.proofs.lemmas.Bool.{cases_lt}
use Rattle.std.proofs.lemmas.Nat.{div_below}
use lib.Lanes.{mask_l}
use Rattle.std.proofs.lemmas.List.{get_or-map, get_or-set_other, get_or-set_same, length-map}
use Rattle.std.proofs.lemmas.Nat.Bits.{bit_at-lt, bit_at-suc, bit_at-zero, bit_at_and, bit_at_lowest, bit_at_not, bit_at_or, bit_at_set_other, bit_at_set_same, same_from_bits_below}
use Rattle.std.proofs.lemmas.Simd.{bit_mask_l, mask_l-lt, ones-mask_l}
use Rattle.std.specs.Int.{Width, bit_at, bit_not}
use Rattle.std.specs.Prelude.{count_by, count_ones}
use mir.Val.{bits}
use Rattle.tag_memory.specs.Tags.{is_set, is_set_for}

-- What a bit is as a number, it is as a test.
pub same_test : (a b : ℕ) → a ≡ b → (a == 1) ≡ (b == 1)
same_test a b e = ap (λ (x : ℕ). x == 1) e

-- And by that test it is the number again.
pub of_test : (n : ℕ) → n < 2 → (if n == 1 then 1 else 0) ≡ n
of_test zero h = refl
of_test (suc zero) h = refl
of_test (suc (suc n)) h = absurd (omega arith)

-- Bit j of a word set, at any width.
module _ (width : Width) (word j : ℕ) (below : j < bits width) where
  pub is_set-same : is_set (bit_or word (1 * 2 ^ j % 2 ^ bits width)) j ≡ true
  is_set-same = same_test _ 1 (bit_at_set_same width word j below)

  pub is_set-other : (k : ℕ) → k ≢ j → is_set (bit_or word (1 * 2 ^ j % 2 ^ bits width)) k ≡ is_set word k
  is_set-other k other = same_test _ _ (bit_at_set_other width word j below k other)

-- Bits of words that are put together.
both_bits : (a b : ℕ) → a < 2 → b < 2 → (min a b == 1) ≡ ((a == 1) && (b == 1))
both_bits zero zero ha hb = refl
both_bits zero (suc zero) ha hb = refl
both_bits zero (suc (suc b)) ha hb = absurd (omega arith)
both_bits (suc zero) zero ha hb = refl
both_bits (suc zero) (suc zero) ha hb = refl
both_bits (suc zero) (suc (suc b)) ha hb = absurd (omega arith)
both_bits (suc (suc a)) b ha hb = absurd (omega arith)

pub is_set-and : (a b i : ℕ) → is_set (bit_and a b) i ≡ (is_set a i && is_set b i)
is_set-and a b i = same_test _ _ (bit_at_and a b i) ∙ both_bits (bit_at a i) (bit_at b i) (bit_at-lt a i) (bit_at-lt b i)

either_bit : (a b : ℕ) → a < 2 → b < 2 → (max a b == 1) ≡ ((b == 1) || (a == 1))
either_bit zero zero ha hb = refl
either_bit zero (suc zero) ha hb = refl
either_bit zero (suc (suc b)) ha hb = absurd (omega arith)
either_bit (suc zero) zero ha hb = refl
either_bit (suc zero) (suc zero) ha hb = refl
either_bit (suc zero) (suc (suc b)) ha hb = absurd (omega arith)
either_bit (suc (suc a)) b ha hb = absurd (omega arith)

-- The bits of a word with those of a mask.
pub is_set-with : (word mask j : ℕ) → is_set (bit_or word mask) j ≡ (is_set mask j || is_set word j)
is_set-with word mask j =
    same_test _ _ (bit_at_or word mask j) ∙ either_bit (bit_at word j) (bit_at mask j) (bit_at-lt word j) (bit_at-lt mask j)

other_bit : (b : ℕ) → b < 2 → (1 - b == 1) ≡ not (b == 1)
other_bit zero hb = refl
other_bit (suc zero) hb = refl
other_bit (suc (suc b)) hb = absurd (omega arith)

-- The bits of the opposite word, and a bit from the opposite one.
is_set-not : (word j : ℕ) → word < 2 ^ 64 → j < 64 → is_set (bit_not w64 word) j ≡ not (is_set word j)
is_set-not word j fits below = same_test _ _ (bit_at_not w64 word j fits below) ∙ other_bit (bit_at word j) (bit_at-lt word j)

pub set_from_not : (word j : ℕ) → word < 2 ^ 64 → j < 64 → is_set (bit_not w64 word) j ≡ false → is_set word j ≡ true
set_from_not word j fits below e = flip (is_set word j) (sym (is_set-not word j fits below) ∙ e) where
  flip : (t : Bool) → not t ≡ false → t ≡ true
  flip true e = refl
  flip false e = absurd cc

pub clear_from_not : (word j : ℕ) → word < 2 ^ 64 → j < 64 → is_set (bit_not w64 word) j ≡ true → is_set word j ≡ false
clear_from_not word j fits below e = flip (is_set word j) (sym (is_set-not word j fits below) ∙ e) where
  flip : (t : Bool) → not t ≡ true → t ≡ false
  flip false e = refl
  flip true e = absurd cc

-- And without them.
pub is_set-cleared : (word mask j : ℕ) → mask < 2 ^ 64 → j < 64 → is_set (bit_and word (bit_not w64 mask)) j ≡ (is_set word j && not (is_set mask j))
is_set-cleared word mask j fits below =
    is_set-and word (bit_not w64 mask) j
    ∙ ap (λ (b : Bool). is_set word j && b) (is_set-not mask j fits below)

pub is_set_zero : (i : ℕ) → is_set 0 i ≡ false
is_set_zero i = same_test _ 0 (bit_at-zero i)

-- Bit j of word w is that of granule 64 * w + j.
pub is_set_for-at : (words : List ℕ) (w j : ℕ) → j < 64 → is_set_for words (64 * w + j) ≡ is_set (get_or words w 0) j
is_set_for-at words w j below =
    let there : (64 * w + j) / 64 ≡ w = omega arith in
    let place : (64 * w + j) % 64 ≡ j = omega arith in
    rw (there, place) refl

-- A word that is written changes its own bits alone.
pub is_set_for-other : (words : List ℕ) (w x i : ℕ) → i / 64 ≢ w → is_set_for (set words w x) i ≡ is_set_for words i
is_set_for-other words w x i other = ap (λ (word : ℕ). is_set word (i % 64)) (get_or-set_other words w (i / 64) x 0 other)

-- Where the words before w have the bits of a test, and x has its bits for word w, one word more has them.
pub is_set_for-more : (test : ℕ → Bool) (words : List ℕ) (w x i : ℕ) → w < length words
    → ((j : ℕ) → j < 64 → is_set x j ≡ test (64 * w + j))
    → ((i : ℕ) → i / 64 < w → is_set_for words i ≡ test i)
    → i / 64 < w + 1 → is_set_for (set words w x) i ≡ test i
is_set_for-more test words w x i inside here done lt =
    elim (cases_lt (i / 64) w) [
      | inl before ↦ is_set_for-other words w x i (λ e. absurd (omega arith)) ∙ done i before
      | inr from ↦
          let same : i / 64 ≡ w = omega arith in
          let there : get_or (set words w x) (i / 64) 0 ≡ x = ap (λ k. get_or (set words w x) k 0) same ∙ get_or-set_same words w x 0 inside in
          let place : 64 * w + i % 64 ≡ i = omega arith in
          ap (λ (word : ℕ). is_set word (i % 64)) there ∙ (here (i % 64) (omega arith) ∙ ap test place)
    ]

-- The ones of a word are as many as pass the test whose answers are its bits.
pub ones-row : {X : Type 0} (p : X → Bool) (xs : List X) (d : X) (n word : ℕ) → length xs ≡ n → word < 2 ^ n
    → ((j : ℕ) → j < n → is_set word j ≡ p (get_or xs j d)) → count_ones word ≡ count_by p xs
ones-row p xs d n word long fits each =
    let row : List Bool = map p xs in
    let below : mask_l row < 2 ^ n = subst (λ (k : ℕ). mask_l row < 2 ^ k) (length-map xs p ∙ long) (mask_l-lt row) in
    let same : word ≡ mask_l row = same_from_bits_below n word (mask_l row) fits below (λ j h.
    sym (of_test (bit_at word j) (bit_at-lt word j))
    ∙ (ap (λ (b : Bool). if b then 1 else 0) (each j h ∙ sym (get_or-map p xs j d false (omega (arith, h, long))))
    ∙ sym (bit_mask_l row j))) in
    ap count_ones same ∙ ones-mask_l p xs

-- A word that isn't 0 has a bit that is 1.
pub record SomeBit (n word : ℕ) : Type 0 where
  pub bit : ℕ
  pub below : bit < n
  pub one : is_set word bit ≡ true

pub some_bit : (n word : ℕ) → word < 2 ^ n → word ≢ 0 → SomeBit n word
some_bit zero word fits some = absurd (some (omega (arith, fits)))
some_bit (suc n) word fits some = dite (ℕ_discrete (word % 2) 1)
    (λ odd. record { bit = 0; below = omega arith; one = same_test _ 1 (bit_at_lowest word ∙ odd) })
    (λ even.
    let fits_half : word < 2 ^ n * 2 = omega (arith, fits) in
    let half = some_bit n (word / 2) (div_below word 2 (2 ^ n) (omega arith) fits_half) (λ none. some (omega (arith, even, none))) in
    record { bit = suc half.bit; below = omega (arith, half.below); one = same_test _ _ (bit_at-suc word half.bit) ∙ half.one })
