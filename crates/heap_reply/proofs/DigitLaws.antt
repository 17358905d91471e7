-- The hexadecimal digits of a number, from its last digit.
use Rattle.std.proofs.Common.{◌≡◌, ℕ, zero, suc, ◌+◌, ◌-◌, ◌*◌, ◌/◌, ◌%◌, ◌^◌, ◌<◌, ◌≤◌, ◌&&◌, Bool, T, eqb, eqb→eq, eq-zero-or-pos, inl, inr, false, true, [], ◌∷◌, ◌++◌, append_assoc, get_or, length, refl, ap, ◌∙◌, arith, length-append}
use lib.Ieee.Fits.{and_l, and_r}
use Rattle.std.specs.Fmt.{decimal, digits, digit_glyph}
use Rattle.std.proofs.lemmas.Fmt.{hex_one_digit, length-decimal-le}
use Rattle.heap_reply.specs.HexadecimalLaws.{digits_step, digits_length}
use Rattle.heap_reply.specs.declared.digits.TheConstants.{PAIRS}

pub hex_step : (n : ℕ) → 16 ≤ n → n < 2 ^ 128 → digits 16 false n ≡ digits 16 false (n / 16) ++ (digit_glyph false (n % 16) ∷ [])
hex_step n high small = digits_step 16 false (omega arith) n (omega arith) (omega arith)

pub length_hex_step : (n : ℕ) → 16 ≤ n → n < 2 ^ 128 → length (digits 16 false n) ≡ length (digits 16 false (n / 16)) + 1
length_hex_step n high small = ap length (hex_step n high small) ∙ length-append _ _

pub length_hex_one : (n : ℕ) → n < 16 → length (digits 16 false n) ≡ 1
length_hex_one n small = ap length (hex_one_digit false n small)

-- ---- two digits at a time

abbrev are_pairs : ℕ → Bool
are_pairs zero = true
are_pairs (suc p) = (eqb (get_or PAIRS (p * 2) 0) (digit_glyph false (p / 16)) && eqb (get_or PAIRS (p * 2 + 1) 0) (digit_glyph false (p % 16))) && are_pairs p

below : (n p : ℕ) → T (are_pairs n) → p < n → (get_or PAIRS (p * 2) 0 ≡ digit_glyph false (p / 16)) × (get_or PAIRS (p * 2 + 1) 0 ≡ digit_glyph false (p % 16))
below zero p t h = absurd (omega arith)
below (suc n) p t h =
    elim (eq-zero-or-pos (n - p)) [
      | inl z ↦ let e : p ≡ n = omega arith in let a = and_l _ (are_pairs n) t in rw e (eqb→eq _ _ (and_l _ _ a), eqb→eq _ _ (and_r _ _ a))
      | inr g ↦ below n p (and_r _ (are_pairs n) t) (omega arith)
    ]

pub PAIRS_at : (p : ℕ) → p < 256 → (get_or PAIRS (p * 2) 0 ≡ digit_glyph false (p / 16)) × (get_or PAIRS (p * 2 + 1) 0 ≡ digit_glyph false (p % 16))
PAIRS_at p h = below 256 p tt h

pub hex_two : (n : ℕ) → 16 ≤ n → n < 256 → digits 16 false n ≡ digit_glyph false (n / 16) ∷ digit_glyph false (n % 16) ∷ []
hex_two n high small = rw (hex_step n high (omega arith), hex_one_digit false (n / 16) (omega arith)) refl

pub length_hex_two : (n : ℕ) → 16 ≤ n → n < 256 → length (digits 16 false n) ≡ 2
length_hex_two n high small = ap length (hex_two n high small)

pub hex_pair : (n : ℕ) → 256 ≤ n → n < 2 ^ 64 → digits 16 false n ≡ digits 16 false (n / 256) ++ (digit_glyph false (n % 256 / 16) ∷ digit_glyph false (n % 256 % 16) ∷ [])
hex_pair n high small =
    let upper : n / 16 / 16 ≡ n / 256 = omega arith in
    let first : n / 16 % 16 ≡ n % 256 / 16 = omega arith in
    let second : n % 16 ≡ n % 256 % 16 = omega arith in
    rw (hex_step n (omega arith) (omega arith), hex_step (n / 16) (omega arith) (omega arith), append_assoc, upper, first, ← second) refl

pub length_hex_pair : (n : ℕ) → 256 ≤ n → n < 2 ^ 64 → length (digits 16 false n) ≡ length (digits 16 false (n / 256)) + 2
length_hex_pair n high small = ap length (hex_pair n high small) ∙ length-append _ _

pub length_hex_16 : (n : ℕ) → n < 2 ^ 64 → length (digits 16 false n) ≤ 16
length_hex_16 n small = digits_length 16 false (omega arith) 16 n (omega arith) (omega arith) (omega arith)

pub length_hex_32 : (n : ℕ) → n < 2 ^ 128 → length (digits 16 false n) ≤ 32
length_hex_32 n small = digits_length 16 false (omega arith) 32 n (omega arith) (omega arith) (omega arith)

pub length_decimal_20 : (n : ℕ) → n < 2 ^ 64 → length (decimal n) ≤ 20
length_decimal_20 n small = length-decimal-le 20 n (omega arith) (omega arith) small
