-- Single bits of words.
use Rattle.std.proofs.Common.{◌≡◌, ◌≢◌, ℕ, zero, suc, ◌+◌, ◌-◌, ◌*◌, ◌/◌, ◌%◌, ◌^◌, ◌==◌, ◌<◌, min, Bool, true, false, if◌then◌else◌, List, [], ◌∷◌, length, get_or, map, refl, sym, ◌∙◌, ap, arith, bit_and, bit_or, w64}
use native.Mathlib.Decide.{ℕ_discrete}
use mathlib.Core.Logic.{dite}
use lib.Lanes.{mask_l}
use Rattle.std.specs.Int.{bit_at, bit_not}
use Rattle.std.specs.Int.RustNames.{count_ones}
use Rattle.std.specs.List.{count_by}
use Rattle.std.proofs.lemmas.Bool.{eq-eqb, eqb-false, eqb-true, ne_eqb}
use Rattle.std.proofs.lemmas.Nat.Bits.{bit_at-lt, bit_at-suc, bit_at-zero, bit_at_and, bit_at_clear_same, bit_at_clear_other, bit_at_lowest}
use Rattle.std.proofs.lemmas.Simd.{bit_mask_l, mask_l-lt, ones-mask_l}
use Rattle.tag_memory.specs.Laws.{is_set-other, is_set-same, same_test}
use Rattle.tag_memory.specs.Tags.{is_set, number_of_bits}

-- ---- one bit set or cleared

-- the word with bit j set
pub is_set-or : (word j k : ℕ) → j < 64 → k < 64 → is_set (bit_or word (1 * 2 ^ j % 2 ^ 64)) k ≡ (if k == j then true else is_set word k)
is_set-or word j k hj hk = dite (ℕ_discrete k j)
    (λ here. rw (eq-eqb k j here) (rw here (is_set-same w64 word j hj)))
    (λ other. rw (ne_eqb k j other) (is_set-other w64 word j hj k other))

-- the word with bit j cleared
pub is_set-and_not : (word j k : ℕ) → j < 64 → k < 64 → is_set (bit_and word (bit_not w64 (1 * 2 ^ j % 2 ^ 64))) k ≡ (if k == j then false else is_set word k)
is_set-and_not word j k hj hk = dite (ℕ_discrete k j)
    (λ here. rw (eq-eqb k j here) (rw here (same_test _ 0 (bit_at_clear_same w64 word j hj))))
    (λ other. rw (ne_eqb k j other) (same_test _ _ (bit_at_clear_other w64 word j hj k hk other)))

-- ---- the lowest bit of a number, which bit j is, and the number one less

-- a number with a bit isn't 0
some : (n j : ℕ) → bit_at n j ≡ 1 → 0 < n
some zero j one = absurd (let none = bit_at-zero j in omega (arith, one, none))
some (suc n) j one = omega arith

-- both have the same other bits, of those that the number has
lowest-other : (j n : ℕ) → bit_at n j ≡ 1 → ((k : ℕ) → k < j → bit_at n k ≡ 0) → (k : ℕ) → k ≢ j → min (bit_at n k) (bit_at (n - 1) k) ≡ bit_at n k
lowest-other zero n one below zero other = absurd (other refl)
lowest-other zero n one below (suc k) other =
    let odd : n % 2 ≡ 1 = sym (bit_at_lowest n) ∙ one in
    let half : (n - 1) / 2 ≡ n / 2 = omega (arith, odd) in
    let same : bit_at (n - 1) (suc k) ≡ bit_at n (suc k) = bit_at-suc (n - 1) k ∙ (ap (λ m. bit_at m k) half ∙ sym (bit_at-suc n k)) in
    omega (arith, same)
lowest-other (suc j) n one below zero other = let none = below 0 (omega arith) in omega (arith, none)
lowest-other (suc j) n one below (suc k) other =
    let even : n % 2 ≡ 0 = sym (bit_at_lowest n) ∙ below 0 (omega arith) in
    let half : (n - 1) / 2 ≡ n / 2 - 1 = omega (arith, even, some n (suc j) one) in
    let rest = lowest-other j (n / 2) (sym (bit_at-suc n j) ∙ one) (λ i lt. sym (bit_at-suc n i) ∙ below (suc i) (omega (arith, lt))) k (λ e. other (ap suc e)) in
    let here = bit_at-suc n k in
    let before : bit_at (n - 1) (suc k) ≡ bit_at (n / 2 - 1) k = bit_at-suc (n - 1) k ∙ ap (λ m. bit_at m k) half in
    omega (arith, rest, here, before)

-- and not the lowest
lowest-same : (j n : ℕ) → bit_at n j ≡ 1 → ((k : ℕ) → k < j → bit_at n k ≡ 0) → min (bit_at n j) (bit_at (n - 1) j) ≡ 0
lowest-same zero n one below =
    let odd : n % 2 ≡ 1 = sym (bit_at_lowest n) ∙ one in
    let last = bit_at_lowest (n - 1) in
    omega (arith, odd, last)
lowest-same (suc j) n one below =
    let even : n % 2 ≡ 0 = sym (bit_at_lowest n) ∙ below 0 (omega arith) in
    let half : (n - 1) / 2 ≡ n / 2 - 1 = omega (arith, even, some n (suc j) one) in
    let rest = lowest-same j (n / 2) (sym (bit_at-suc n j) ∙ one) (λ i lt. sym (bit_at-suc n i) ∙ below (suc i) (omega (arith, lt))) in
    let here = bit_at-suc n j in
    let before : bit_at (n - 1) (suc j) ≡ bit_at (n / 2 - 1) j = bit_at-suc (n - 1) j ∙ ap (λ m. bit_at m j) half in
    omega (arith, rest, here, before)

-- a bit by its test
pub one_by_test : (n j : ℕ) → is_set n j ≡ true → bit_at n j ≡ 1
one_by_test n j set = eqb-true (bit_at n j) 1 set

below_two : (b : ℕ) → b < 2 → (b ≡ 1 → ⊥) → b ≡ 0
below_two zero lt other = refl
below_two (suc zero) lt other = absurd (other refl)
below_two (suc (suc b)) lt other = absurd (omega arith)

pub zero_by_test : (n j : ℕ) → is_set n j ≡ false → bit_at n j ≡ 0
zero_by_test n j unset = below_two (bit_at n j) (bit_at-lt n j) (eqb-false (bit_at n j) 1 unset)

-- so both together are the number without it
pub is_set-without_lowest : (n j : ℕ) → is_set n j ≡ true → ((k : ℕ) → k < j → is_set n k ≡ false)
    → (k : ℕ) → is_set (bit_and n (n - 1)) k ≡ (if k == j then false else is_set n k)
is_set-without_lowest n j set unset k =
    let one = one_by_test n j set in
    let below = λ (i : ℕ) (lt : i < j). zero_by_test n i (unset i lt) in
    same_test _ _ (bit_at_and n (n - 1) k) ∙ dite (ℕ_discrete k j)
    (λ here. rw (eq-eqb k j here) (rw here (same_test _ 0 (lowest-same j n one below))))
    (λ other. rw (ne_eqb k j other) (same_test _ _ (lowest-other j n one below k other)))

-- ---- a number by its bits

pub number_of_bits-mask : (bits : List Bool) → number_of_bits bits ≡ mask_l bits
number_of_bits-mask [] = refl
number_of_bits-mask (bit ∷ bits) = ap (λ (n : ℕ). (if bit then 1 else 0) + 2 * n) (number_of_bits-mask bits)

pub number_of_bits-lt : (bits : List Bool) → number_of_bits bits < 2 ^ length bits
number_of_bits-lt bits = rw number_of_bits-mask (mask_l-lt bits)

pub bit_at-number_of_bits : (bits : List Bool) (j : ℕ) → bit_at (number_of_bits bits) j ≡ (if get_or bits j false then 1 else 0)
bit_at-number_of_bits bits j = rw number_of_bits-mask (bit_mask_l bits j)

pub ones-number_of_bits : {X : Type 0} (p : X → Bool) (xs : List X) → count_ones (number_of_bits (map p xs)) ≡ count_by p xs
ones-number_of_bits p xs = rw number_of_bits-mask (ones-mask_l p xs)
