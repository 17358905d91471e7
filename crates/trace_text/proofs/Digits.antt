-- What a text of digits writes, read as a whole and digit by digit.
use Rattle.std.proofs.Common.{◌≡◌, ℕ, zero, suc, ◌+◌, ◌-◌, ◌*◌, ◌<◌, ◌≤◌, ◌^◌, Bool, true, false, List, [], ◌∷◌, length, drop, get_or, Option, Some, None, arith, refl, ap, subst, ◌∙◌, ◌&&◌, nat_lt, nat_le}
use Rattle.std.specs.Prelude.{if◌then◌else◌}
use Rattle.std.specs.Char.{digit_value, is_digit}
use Rattle.std.specs.Str.Parse.{AllDigits, digits_value_after}
use Rattle.std.proofs.Math.ListN.{drop_of_length-le}
use Rattle.std.proofs.Math.Nat.{le-mul_of_pos_right, pow-suc}
use Rattle.std.proofs.lemmas.Bool.Decides.{nat_tests}
use Rattle.std.proofs.lemmas.List.{at_drop_more}
use Rattle.trace_text.specs.Reading.{all_digits_in, numeral_of}

pub and_true : (a b : Bool) → (a && b) ≡ true → (a ≡ true) × (b ≡ true)
and_true true b h = (refl, h)
and_true false b h = cc

pub all_digits_are : (radix : ℕ) (ds : List ℕ) → all_digits_in radix ds ≡ true → AllDigits radix ds
all_digits_are radix [] h = tt
all_digits_are radix (c ∷ cs) h =
    let (digit, all) = and_true (is_digit c radix) (all_digits_in radix cs) h in
    (grind (arith, nat_tests, digit), all_digits_are radix cs all)

-- ---- digit by digit

-- the number that the digits of n and then these write, where these are digits and 64 bits have room for it
abbrev pub value_after : ℕ → ℕ → List ℕ → Option ℕ
value_after radix n ds =
    if all_digits_in radix ds && nat_lt (digits_value_after radix n ds) (2 ^ 64) then Some (digits_value_after radix n ds) else None

-- where 1 to `most` digits are left, before the first of them
pub numeral_value : (radix most : ℕ) (ds : List ℕ) → 0 < length ds → length ds ≤ most → numeral_of radix most ds ≡ value_after radix 0 ds
numeral_value radix most ds some few =
    let some_test : nat_lt 0 (length ds) ≡ true = grind (arith, nat_tests, some) in
    let few_test : nat_le (length ds) most ≡ true = grind (arith, nat_tests, few) in
    rw (some_test, few_test) refl

-- one digit more
pub value_after-digit : (radix n d : ℕ) (ds : List ℕ) → digit_value d < radix → value_after radix n (d ∷ ds) ≡ value_after radix (n * radix + digit_value d) ds
value_after-digit radix n d ds small =
    let is : is_digit d radix ≡ true = grind (arith, nat_tests, small) in
    rw is refl

-- a byte that is no digit
pub value_after-none : (radix n d : ℕ) (ds : List ℕ) → ¬ (digit_value d < radix) → value_after radix n (d ∷ ds) ≡ None
value_after-none radix n d ds large =
    let is_none : is_digit d radix ≡ false = grind (arith, nat_tests, large) in
    rw is_none refl

-- more digits make no less
digits_value_after-ge : (radix n : ℕ) (ds : List ℕ) → 0 < radix → n ≤ digits_value_after radix n ds
digits_value_after-ge radix n [] some = omega arith
digits_value_after-ge radix n (d ∷ ds) some =
    omega (arith, le-mul_of_pos_right {m = radix} n some, digits_value_after-ge radix (n * radix + digit_value d) ds some)

if_false : (t u : Bool) (v : ℕ) → u ≡ false → (if t && u then Some v else None) ≡ None
if_false true u v e = rw e refl
if_false false u v e = refl

value_after-large : (radix n : ℕ) (ds : List ℕ) → 0 < radix → 2 ^ 64 ≤ n → value_after radix n ds ≡ None
value_after-large radix n ds some large =
    let not_lt : nat_lt (digits_value_after radix n ds) (2 ^ 64) ≡ false = grind (arith, nat_tests, large, digits_value_after-ge radix n ds some) in
    if_false (all_digits_in radix ds) _ _ not_lt

-- a digit that makes it too large
pub too_large : (radix n : ℕ) (ds : List ℕ) (i : ℕ) → 2 ≤ radix → i < length ds → digit_value (get_or ds i 0) < radix
    → 2 ^ 64 ≤ n * radix + digit_value (get_or ds i 0) → value_after radix n (drop i ds) ≡ None
too_large radix n ds i low lt small large =
    at_drop_more (value_after radix n) ds i 0 lt ∙ value_after-digit radix n (get_or ds i 0) (drop (i + 1) ds) small
    ∙ value_after-large radix _ (drop (i + 1) ds) (omega arith) large

-- no digit is left
pub all_read : (radix n : ℕ) (ds : List ℕ) (i : ℕ) → length ds ≤ i → n < 2 ^ 64 → value_after radix n (drop i ds) ≡ Some n
all_read radix n ds i le small =
    let lt : nat_lt n (2 ^ 64) ≡ true = grind (arith, nat_tests, small) in
    ap (value_after radix n) (drop_of_length-le ds le) ∙ rw lt refl

-- ---- hexadecimal digits, for which there is always room

pow16_le : (k i j : ℕ) → j ≡ k + i → 16 ^ i ≤ 16 ^ j
pow16_le zero i j e =
    let same : i ≡ j = omega (arith, e) in
    subst (λ n. 16 ^ i ≤ 16 ^ n) same (omega arith)
pow16_le (suc k) i zero e = absurd (omega (arith, e))
pow16_le (suc k) i (suc j) e = omega (arith, pow16_le k i j (omega (arith, e)), pow-suc 16 j)

pub sixteenth_fits : (i n : ℕ) → i < 16 → n < 16 ^ i → n * 16 + 15 < 2 ^ 64
sixteenth_fits i n few below = omega (arith, pow16_le (15 - i) i 15 (omega arith), below)
