-- A word is read as a number or as a register exactly where the grammar says that it is it.
use Rattle.std.proofs.Common.{◌≡◌, ℕ, zero, suc, ◌<◌, ◌^◌, ◌&&◌, Bool, true, false, not, cond, nat_eq, nat_lt, nat_le, List, [], ◌∷◌, ◌++◌, Option, Some, None, length, take, drop, get_or, codes, bytes_eq, inl, inr, refl, sym, ap, ◌∙◌, arith}
use Rattle.std.specs.Char.{digit_value}
use Rattle.std.specs.Fmt.{decimal}
use Rattle.std.specs.Str.Parse.{AllDigits, digits_value}
use Rattle.std.proofs.lemmas.Bool.Decides.{nat_tests}
use Rattle.std.proofs.lemmas.Fmt.{decimal-digits_value, decimal_digit, decimal_nonempty, digits_decimal, digits_value-decimal, first_decimal, length-decimal-le}
use Rattle.std.proofs.lemmas.List.{take-append-drop}
use Rattle.std.proofs.lemmas.Slice.Eq.{bytes_eq-Decides}
use Rattle.std.proofs.lemmas.Str.Parse.{IsNumeralModel, numerals_by_value, tells_digits}
use Rattle.trace_text.specs.Grammar.{AreDigits, IsMask, IsNumber, IsRegister}
use Rattle.trace_text.specs.Reading.{all_digits_in, are_digits, below_limit, has_leading_zero, number_of, numeral_of, register_of}
use Rattle.trace_text.proofs.Digits.{all_digits_are, and_true}

pub when : {A : Type 0} (t : Bool) (x y : A) → cond t (Some x) None ≡ Some y → (t ≡ true) × (x ≡ y)
when true x y e = (refl, cc)
when false x y e = absurd cc

-- ---- digits

all_digits_from : (radix : ℕ) (digits : List ℕ) → AllDigits radix digits → all_digits_in radix digits ≡ true
all_digits_from radix [] all = refl
all_digits_from radix (d ∷ digits) (digit, all) =
    let first : nat_lt (digit_value d) radix ≡ true = grind (arith, nat_tests, digit) in
    rw first (all_digits_from radix digits all)

AreDigits-read : (radix most : ℕ) (digits : List ℕ) (number : ℕ) → numeral_of radix most digits ≡ Some number → AreDigits radix most digits number
AreDigits-read radix most digits number e =
    let (tests, value) = when (are_digits radix most digits && nat_lt (digits_value radix digits) (2 ^ 64)) (digits_value radix digits) number e in
    let (written, fits) = and_true (are_digits radix most digits) (nat_lt (digits_value radix digits) (2 ^ 64)) tests in
    let (some, rest) = and_true (nat_lt 0 (length digits)) (nat_le (length digits) most && all_digits_in radix digits) written in
    let (few, all) = and_true (nat_le (length digits) most) (all_digits_in radix digits) rest in
    record {
      some = grind (arith, nat_tests, some);
      few = grind (arith, nat_tests, few);
      all = all_digits_are radix digits all;
      value = value;
      fits = grind (arith, nat_tests, fits, value);
    }

numeral_of-AreDigits : (radix most : ℕ) (digits : List ℕ) (number : ℕ) → AreDigits radix most digits number → numeral_of radix most digits ≡ Some number
numeral_of-AreDigits radix most digits number h =
    let all : all_digits_in radix digits ≡ true = all_digits_from radix digits h.all in
    let some : nat_lt 0 (length digits) ≡ true = grind (arith, nat_tests, h.some) in
    let few : nat_le (length digits) most ≡ true = grind (arith, nat_tests, h.few) in
    let fits : nat_lt (digits_value radix digits) (2 ^ 64) ≡ true = grind (arith, nat_tests, h.fits, h.value) in
    rw (some, few, all, fits) (ap Some h.value)

-- ---- numbers

pub same_bytes : (xs ys : List ℕ) → bytes_eq xs ys ≡ true → xs ≡ ys
same_bytes xs ys e = (bytes_eq-Decides xs ys).0 e

second_fails : (t : Bool) → (t && false) ≡ false
second_fails true = refl
second_fails false = refl

pub IsNumber-read : (word : List ℕ) (number : ℕ) → number_of word ≡ Some number → IsNumber word number
IsNumber-read word number e = go (bytes_eq (take 2 word) (codes "0x")) refl e where
  go : (t : Bool) → bytes_eq (take 2 word) (codes "0x") ≡ t → cond t (numeral_of 16 16 (drop 2 word)) (numeral_of 10 20 word) ≡ Some number → IsNumber word number
  go true is h =
      inr (drop 2 word, sym (take-append-drop 2 word) ∙ ap (λ xs. xs ++ drop 2 word) (same_bytes (take 2 word) (codes "0x") is), AreDigits-read 16 16 (drop 2 word) number h)
  go false is h = inl (AreDigits-read 10 20 word number h)

no_letter : (word : List ℕ) → AllDigits 10 word → bytes_eq (take 2 word) (codes "0x") ≡ false
no_letter [] all = refl
no_letter (a ∷ []) all = second_fails (nat_eq a 48)
no_letter (a ∷ b ∷ bs) (first, (second, rest)) =
    let letter : nat_eq b 120 ≡ false = grind (arith, nat_tests, second) in
    rw letter (second_fails (nat_eq a 48))

pub number_of-IsNumber : (word : List ℕ) (number : ℕ) → IsNumber word number → number_of word ≡ Some number
number_of-IsNumber word number (inl are) =
    let decimal_only : bytes_eq (take 2 word) (codes "0x") ≡ false = no_letter word are.all in
    rw decimal_only (numeral_of-AreDigits 10 20 word number are)
number_of-IsNumber word number (inr (digits, word_is, are)) = ap number_of word_is ∙ numeral_of-AreDigits 16 16 digits number are

-- ---- registers

own : IsNumeralModel (AllDigits 10) (digits_value 10)
own = numerals_by_value (AllDigits 10) tells_digits

limited-some : (limit : ℕ) (found : Option ℕ) (number : ℕ) → below_limit limit found ≡ Some number → (found ≡ Some number) × (number < limit)
limited-some limit None number e = absurd cc
limited-some limit (Some n) number e =
    let (below, same) = when (nat_lt n limit) n number e in
    (ap Some same, grind (arith, nat_tests, below, same))

limited-is : (limit number : ℕ) → number < limit → below_limit limit (Some number) ≡ Some number
limited-is limit number lt = let t : nat_lt number limit ≡ true = grind (arith, nat_tests, lt) in rw t refl

only_zero : (digits : List ℕ) → not (has_leading_zero digits) ≡ true → 0 < length digits → get_or digits 0 0 ≡ 48 → length digits ≡ 1
only_zero [] e some starts = absurd (omega arith)
only_zero (d ∷ []) e some starts = refl
only_zero (d ∷ d' ∷ ds) e some starts = absurd (grind (arith, nat_tests, e, starts))

pub IsRegister-read : (word : List ℕ) (register : ℕ) → register_of word ≡ Some register → IsRegister word register
IsRegister-read word register e = go (bytes_eq (take 1 word) (codes "c")) (not (has_leading_zero (drop 1 word))) refl refl e where
  go : (t u : Bool) → bytes_eq (take 1 word) (codes "c") ≡ t → not (has_leading_zero (drop 1 word)) ≡ u → cond (t && u) (below_limit 32 (numeral_of 10 2 (drop 1 word))) None ≡ Some register → IsRegister word register
  go true true is plain h =
      let (found, small) = limited-some 32 (numeral_of 10 2 (drop 1 word)) register h in
      let digits = AreDigits-read 10 2 (drop 1 word) register found in
      let value : digits_value 10 (drop 1 word) < 2 ^ 64 = omega (arith, digits.value, digits.fits) in
      let text : decimal (digits_value 10 (drop 1 word)) ≡ drop 1 word = decimal-digits_value own (drop 1 word) digits.all (omega (arith, digits.some)) (only_zero (drop 1 word) plain (omega (arith, digits.some))) value in
      (small, sym (take-append-drop 1 word) ∙ ap (λ xs. xs ++ drop 1 word) (same_bytes (take 1 word) (codes "c") is) ∙ ap (λ xs. codes "c" ++ xs) (sym text ∙ ap decimal digits.value))
  go true false is plain h = absurd cc
  go false u is plain h = absurd cc

starts_above : (digits : List ℕ) → 48 < get_or digits 0 0 → has_leading_zero digits ≡ false
starts_above [] h = refl
starts_above (d ∷ ds) h =
    let t : nat_eq 48 d ≡ false = grind (arith, nat_tests, h) in
    rw t (second_fails (nat_lt 1 (length (d ∷ ds))))

no_zero : (register : ℕ) → register < 32 → has_leading_zero (decimal register) ≡ false
no_zero zero lt = ap has_leading_zero (decimal_digit 0 (omega arith))
no_zero (suc r) lt = starts_above (decimal (suc r)) (first_decimal (suc r) (omega arith) (omega arith))

pub register_of-IsRegister : (word : List ℕ) (register : ℕ) → IsRegister word register → register_of word ≡ Some register
register_of-IsRegister word register (small, word_is) =
    let digits : AreDigits 10 2 (decimal register) register = record {
      some = omega (arith, decimal_nonempty register (omega arith));
      few = length-decimal-le 2 register (omega arith) (omega (arith, small)) (omega (arith, small));
      all = digits_decimal own register (omega (arith, small));
      value = digits_value-decimal own register (omega (arith, small));
      fits = omega (arith, small);
    } in
    ap register_of word_is ∙ rw (no_zero register small, numeral_of-AreDigits 10 2 (decimal register) register digits) (limited-is 32 register small)

-- ---- masks

pub IsMask-read : (word : List ℕ) (mask : ℕ) → below_limit 65536 (number_of word) ≡ Some mask → IsMask word mask
IsMask-read word mask e =
    let (found, small) = limited-some 65536 (number_of word) mask e in
    (IsNumber-read word mask found, omega arith)

pub limited-IsMask : (word : List ℕ) (mask : ℕ) → IsMask word mask → below_limit 65536 (number_of word) ≡ Some mask
limited-IsMask word mask (number, small) = ap (below_limit 65536) (number_of-IsNumber word mask number) ∙ limited-is 65536 mask (omega arith)
