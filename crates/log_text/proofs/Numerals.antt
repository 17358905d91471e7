-- The digits of a number as they are written: which they are, and which number they write.
use Rattle.std.proofs.Common.{◌≡◌, ◌≢◌, ℕ, zero, suc, ◌+◌, ◌*◌, ◌/◌, ◌%◌, ◌^◌, ◌<◌, ◌≤◌, ◌&&◌, Bool, false, true, cond, nat_eq, nat_lt, nat_le, List, [], ◌∷◌, ◌++◌, Option, Some, None, bytes_eq, length, take, get_or, eq-zero-or-pos, inl, inr, refl, sym, ap, ap₂, subst, ◌∙◌, arith}
use Rattle.std.proofs.Math.Nat.{pow-le-pow_right, pow-suc, pow-zero, zero-div}
use Rattle.std.proofs.Math.Seq.{take-suc}
use Rattle.std.specs.Char.{digit_value, is_digit}
use Rattle.std.specs.Fmt.{digit_glyph, digits, digits_onto}
use Rattle.std.specs.Str.Parse.{AllDigits, digits_value}
use Rattle.std.proofs.lemmas.Bool.{eq-eqb, ne_eqb}
use Rattle.std.proofs.lemmas.Bool.Decides.{nat_tests}
use Rattle.std.proofs.lemmas.Fmt.{decimal-digits_value, digits_is_IsNumeral, hex_one_digit}
use Rattle.std.proofs.lemmas.List.{take_all}
use Rattle.std.proofs.lemmas.Nat.{div-add-mod', div_below}
use Rattle.std.proofs.lemmas.Slice.Eq.{bytes_eq-Decides}
use Rattle.std.proofs.lemmas.Str.Parse.{IsNumeralModel, numerals_by_value, tells_digits}
use Rattle.heap_reply.specs.HexadecimalLaws.{digits_length, digits_step}
use Rattle.trace_text.specs.Reading.{all_digits_in, are_digits, has_leading_zero, number_of, numeral_of}
use Rattle.log_text.specs.ReplyText.{number_in_radix}

pub and_true : (a b : Bool) → (a && b) ≡ true → (a ≡ true) × (b ≡ true)
and_true true b h = (refl, h)
and_true false b h = cc

pub when : {A : Type 0} (t : Bool) (x y : A) → cond t (Some x) None ≡ Some y → (t ≡ true) × (x ≡ y)
when true x y e = (refl, cc)
when false x y e = absurd cc

pub same_bytes : (xs ys : List ℕ) → bytes_eq xs ys ≡ true → xs ≡ ys
same_bytes xs ys e = (bytes_eq-Decides xs ys).0 e

second_fails : (t : Bool) → (t && false) ≡ false
second_fails true = refl
second_fails false = refl

-- ---- a digit's glyph

abbrev pub IsGlyph : ℕ → ℕ → Type 0
IsGlyph base byte = (digit : ℕ) × (digit < base) × (digit_glyph false digit ≡ byte)

abbrev pub AreGlyphs : ℕ → List ℕ → Type 0
AreGlyphs base [] = Unit {0}
AreGlyphs base (byte ∷ bytes) = IsGlyph base byte × AreGlyphs base bytes

glyph_at : (base : ℕ) (bytes : List ℕ) (i : ℕ) → AreGlyphs base bytes → i < length bytes → IsGlyph base (get_or bytes i 0)
glyph_at base [] i are lt = absurd (omega arith)
glyph_at base (byte ∷ bytes) zero are lt = are.0
glyph_at base (byte ∷ bytes) (suc i) are lt = glyph_at base bytes i are.1 (omega arith)

glyph_above : (digit : ℕ) → 0 < digit → digit < 16 → 48 < digit_glyph false digit
glyph_above digit some small = grind (arith, nat_tests)

module _ (base : ℕ) (low : 2 ≤ base) (high : base ≤ 16) where
  -- ---- what is written of a number

  glyph_of : (n : ℕ) → IsGlyph base (digit_glyph false (n % base))
  glyph_of n = (n % base, omega (arith, low), refl)

  digits_onto-glyphs : (k n : ℕ) (rest : List ℕ) → AreGlyphs base rest → AreGlyphs base (digits_onto k base false n rest)
  digits_onto-glyphs zero n rest are = are
  digits_onto-glyphs (suc k) n rest are = elim (eq-zero-or-pos (n / base)) [
    | inl none ↦ rw (eq-eqb (n / base) 0 none) (glyph_of n, are)
    | inr some ↦ rw (ne_eqb (n / base) 0 (omega arith)) (digits_onto-glyphs k (n / base) (digit_glyph false (n % base) ∷ rest) (glyph_of n, are))
  ]

  -- each byte is a digit
  pub digits_glyphs : (n : ℕ) → AreGlyphs base (digits base false n)
  unfolding digits
  digits_glyphs n = digits_onto-glyphs 64 n [] tt

  pub digits-glyph : (n i : ℕ) → i < length (digits base false n) → IsGlyph base (get_or (digits base false n) i 0)
  digits-glyph n i lt = glyph_at base (digits base false n) i (digits_glyphs n) lt

  rest_alone : (n : ℕ) → n / base ≡ 0 → n % base ≡ n
  rest_alone n none =
      let whole = div-add-mod' n base in
      let nothing : n / base * base ≡ 0 * base = ap (λ q. q * base) none in
      omega arith

  needs_room : (k n : ℕ) → 0 < n → n < base ^ k → 0 < k
  needs_room zero n some below = absurd (omega (arith, pow-zero base))
  needs_room (suc k) n some below = omega arith

  digits_onto-first : (k n : ℕ) (rest : List ℕ) → 0 < k → 0 < n → n < base ^ k → 48 < get_or (digits_onto k base false n rest) 0 0
  digits_onto-first zero n rest room some small = absurd (omega arith)
  digits_onto-first (suc k) n rest room some small = elim (eq-zero-or-pos (n / base)) [
    | inl none ↦
        let alone : n % base ≡ n = rest_alone n none in
        rw (eq-eqb (n / base) 0 none) (glyph_above (n % base) (omega arith) (omega (arith, high)))
    | inr more ↦
        let below : n / base < base ^ k = div_below n base (base ^ k) (omega (arith, low)) (rw pow-suc at small) in
        rw (ne_eqb (n / base) 0 (omega arith)) (digits_onto-first k (n / base) (digit_glyph false (n % base) ∷ rest) (needs_room k (n / base) more below) more below)
  ]

  starts_above : (ds : List ℕ) → 48 < get_or ds 0 0 → has_leading_zero ds ≡ false
  starts_above [] h = refl
  starts_above (d ∷ ds) h =
      let t : nat_eq 48 d ≡ false = grind (arith, nat_tests, h) in
      rw t (second_fails (nat_lt 1 (length (d ∷ ds))))

  -- no digit stands after a zero at the front
  pub digits-plain : (n : ℕ) → n < base ^ 64 → has_leading_zero (digits base false n) ≡ false
  unfolding digits
  digits-plain zero small = rw (zero-div base) refl
  digits-plain (suc n) small = starts_above (digits base false (suc n)) (digits_onto-first 64 (suc n) [] (omega arith) (omega arith) small)

  pub digits_are : (n : ℕ) → n < base ^ 64 → (0 < length (digits base false n)) × AllDigits base (digits base false n) × (digits_value base (digits base false n) ≡ n)
  digits_are n small = let is = digits_is_IsNumeral base false low high n small in (is.0.0, is.0.1, is.1)

  -- ---- a word as what is written

  pub written-is : (limit n : ℕ) (word : List ℕ) → n < limit → limit ≤ base ^ 64 → word ≡ digits base false n → number_in_radix base limit word ≡ Some n
  written-is limit n word lt room is =
      let value : digits_value base (digits base false n) ≡ n = (digits_are n (omega (arith, lt, room))).2 in
      let fits : nat_lt n limit ≡ true = grind (arith, nat_tests, lt) in
      let same : bytes_eq (digits base false n) (digits base false n) ≡ true = (bytes_eq-Decides (digits base false n) (digits base false n)).1 refl in
      ap (number_in_radix base limit) is ∙ rw (value, fits, same) refl

  pub written-read : (limit n : ℕ) (word : List ℕ) → number_in_radix base limit word ≡ Some n → (n < limit) × (word ≡ digits base false n)
  written-read limit n word e =
      let value = digits_value base word in
      let tests = when (nat_lt value limit && bytes_eq (digits base false value) word) value n e in
      let both = and_true (nat_lt value limit) (bytes_eq (digits base false value) word) tests.0 in
      (grind (arith, nat_tests, both.0, tests.1), sym (same_bytes (digits base false value) word both.1) ∙ ap (digits base false) tests.1)

  -- a word that is written of no number
  pub written-none : (limit : ℕ) (word : List ℕ) → ((n : ℕ) → n < limit → word ≡ digits base false n → ⊥) → number_in_radix base limit word ≡ None
  written-none limit word never = go (number_in_radix base limit word) refl where
    go : (found : Option ℕ) → number_in_radix base limit word ≡ found → found ≡ None
    go None e = refl
    go (Some n) e = let is = written-read limit n word e in absurd (never n is.0 is.1)

-- ---- hexadecimal digits, one after the other

pow16_le : (i j : ℕ) → i ≤ j → 16 ^ i ≤ 16 ^ j
pow16_le i j le = pow-le-pow_right (omega arith) le

not_zero : (ds : List ℕ) (i value : ℕ) → 0 < i → i < length ds → has_leading_zero ds ≡ false → digits 16 false value ≡ take i ds → 0 < value
unfolding digits
not_zero ds i (suc value) some lt plain is = omega arith
not_zero [] i zero some lt plain is = absurd (omega arith)
not_zero (d ∷ []) i zero some lt plain is = absurd (omega arith)
not_zero (d ∷ e ∷ ds) zero zero some lt plain is = absurd (omega arith)
not_zero (d ∷ e ∷ ds) (suc i) zero some lt plain is =
    let first : 48 ≡ d = ap (λ bytes. get_or bytes 0 0) is in
    let long : nat_lt 1 (length (d ∷ e ∷ ds)) ≡ true = grind (arith, nat_tests) in
    let zero_first : has_leading_zero (d ∷ e ∷ ds) ≡ true = rw (long, ← first) refl in
    absurd (cc (zero_first, plain))

-- the digits so far write the value so far
pub digits_next : (ds : List ℕ) (i value digit : ℕ) → i < length ds → i < 32 → has_leading_zero ds ≡ false → value < 16 ^ i → (0 < i → digits 16 false value ≡ take i ds)
    → digit < 16 → digit_glyph false digit ≡ get_or ds i 0 → digits 16 false (value * 16 + digit) ≡ take (suc i) ds
digits_next ds zero value digit lt few plain below is small glyph =
    let alone : value * 16 + digit ≡ digit = omega arith in
    ap (digits 16 false) alone ∙ hex_one_digit false digit small ∙ ap (λ byte. byte ∷ []) glyph ∙ sym (take-suc ds 0 0 lt)
digits_next ds (suc i) value digit lt few plain below is small glyph =
    let so_far : digits 16 false value ≡ take (suc i) ds = is (omega arith) in
    let some : 0 < value = not_zero ds (suc i) value (omega arith) lt plain so_far in
    let front : (value * 16 + digit) / 16 ≡ value = omega arith in
    let last : (value * 16 + digit) % 16 ≡ digit = omega arith in
    let wide : value * 16 + digit < 16 ^ 64 = omega (arith, pow16_le (suc i) 32 (omega arith)) in
    digits_step 16 false (omega arith) (value * 16 + digit) (omega (arith, front)) wide
    ∙ ap₂ (λ v d. digits 16 false v ++ (digit_glyph false d ∷ [])) front last
    ∙ ap₂ (λ bytes byte. bytes ++ (byte ∷ [])) so_far glyph ∙ sym (take-suc ds (suc i) 0 lt)

pub next_below : (i value digit : ℕ) → value < 16 ^ i → digit < 16 → value * 16 + digit < 16 ^ suc i
next_below i value digit below small = omega (arith, pow-suc 16 i)

pub next_fits : (most i value digit : ℕ) → i < most → value < 16 ^ i → digit < 16 → value * 16 + digit < 16 ^ most
next_fits most i value digit few below small = omega (arith, pow16_le (suc i) most few, next_below i value digit below small)

pub limit_within : (most : ℕ) → most ≤ 32 → 16 ^ most ≤ 16 ^ 64
limit_within most few = pow16_le most 64 (omega arith)

-- all digits are read
pub digits_read : (most value : ℕ) (ds : List ℕ) (i : ℕ) → 0 < length ds → length ds ≤ most → most ≤ 32 → i ≡ length ds → value < 16 ^ i → (0 < i → digits 16 false value ≡ take i ds)
    → (value < 16 ^ most) × (number_in_radix 16 (16 ^ most) ds ≡ Some value)
digits_read most value ds i some within few all below is =
    let small : value < 16 ^ most = omega (arith, pow16_le i most (omega arith)) in
    (small, written-is 16 (omega arith) (omega arith) (16 ^ most) value ds small (limit_within most few) (sym (take_all i ds (omega arith)) ∙ sym (is (omega arith))))

-- words that aren't written of a number of so many digits: none, too many, zeros at the front, and another byte
pub none_written : (most : ℕ) → most ≤ 32 → number_in_radix 16 (16 ^ most) [] ≡ None
none_written most few = written-none 16 (omega arith) (omega arith) (16 ^ most) [] (λ n lt is.
    let some = (digits_are 16 (omega arith) (omega arith) n (omega (arith, lt, limit_within most few))).0 in
    omega (arith, some, ap length is))

pub long_written : (most : ℕ) (ds : List ℕ) → 0 < most → most ≤ 32 → most < length ds → number_in_radix 16 (16 ^ most) ds ≡ None
long_written most ds some few long = written-none 16 (omega arith) (omega arith) (16 ^ most) ds (λ n lt is.
    omega (arith, digits_length 16 false (omega arith) most n some lt (omega (arith, lt, limit_within most few)), ap length is))

pub zero_written : (base : ℕ) (low : 2 ≤ base) (high : base ≤ 16) (limit : ℕ) (ds : List ℕ) → limit ≤ base ^ 64 → has_leading_zero ds ≡ true → number_in_radix base limit ds ≡ None
zero_written base low high limit ds room zeros = written-none base low high limit ds (λ n lt is.
    let plain = digits-plain base low high n (omega (arith, lt, room)) in
    let clash : has_leading_zero ds ≡ false = ap has_leading_zero is ∙ plain in
    absurd cc)

pub other_written : (most : ℕ) (ds : List ℕ) (i : ℕ) → most ≤ 32 → i < length ds → ((digit : ℕ) → digit < 16 → digit_glyph false digit ≢ get_or ds i 0) → number_in_radix 16 (16 ^ most) ds ≡ None
other_written most ds i few lt other = written-none 16 (omega arith) (omega arith) (16 ^ most) ds (λ n small is.
    let glyph = digits-glyph 16 (omega arith) (omega arith) n i (omega (arith, lt, ap length is)) in
    other glyph.0 glyph.1 (glyph.2 ∙ ap (λ bytes. get_or bytes i 0) (sym is)))

-- ---- decimal digits, read as a number of a trace

own : IsNumeralModel (AllDigits 10) (digits_value 10)
own = numerals_by_value (AllDigits 10) tells_digits

all_digits_are : (ds : List ℕ) → all_digits_in 10 ds ≡ true → AllDigits 10 ds
all_digits_are [] h = tt
all_digits_are (c ∷ cs) h =
    let both = and_true (is_digit c 10) (all_digits_in 10 cs) h in
    (grind (arith, nat_tests, both.0), all_digits_are cs both.1)

all_digits_from : (ds : List ℕ) → AllDigits 10 ds → all_digits_in 10 ds ≡ true
all_digits_from [] all = refl
all_digits_from (d ∷ ds) all =
    let first : nat_lt (digit_value d) 10 ≡ true = grind (arith, nat_tests, all.0) in
    rw first (all_digits_from ds all.1)

only_zero : (ds : List ℕ) → has_leading_zero ds ≡ false → 0 < length ds → get_or ds 0 0 ≡ 48 → length ds ≡ 1
only_zero [] plain some starts = absurd (omega arith)
only_zero (d ∷ []) plain some starts = refl
only_zero (d ∷ e ∷ ds) plain some starts =
    let long : nat_lt 1 (length (d ∷ e ∷ ds)) ≡ true = grind (arith, nat_tests) in
    let zeros : has_leading_zero (d ∷ e ∷ ds) ≡ true = rw (long, starts) refl in
    absurd (cc (zeros, plain))

-- without a zero at its front a word isn't hexadecimal
not_hexadecimal : (word : List ℕ) → has_leading_zero word ≡ false → number_of word ≡ numeral_of 10 20 word
not_hexadecimal [] plain = refl
not_hexadecimal (d ∷ []) plain = rw (second_fails (nat_eq d 48)) refl
not_hexadecimal (d ∷ e ∷ ds) plain =
    let long : nat_lt 1 (length (d ∷ e ∷ ds)) ≡ true = grind (arith, nat_tests) in
    let other : nat_eq 48 d ≡ false = plain_first (nat_eq 48 d) (subst (λ t. (t && (nat_eq 48 d && true)) ≡ false) long plain) in
    let same : nat_eq d 48 ≡ false = grind (arith, nat_tests, other) in
    rw same refl where
      plain_first : (t : Bool) → (true && (t && true)) ≡ false → t ≡ false
      plain_first true h = absurd cc
      plain_first false h = refl

number_of-digits : (n : ℕ) → n < 2 ^ 64 → number_of (digits 10 false n) ≡ Some n
number_of-digits n small =
    let are = digits_are 10 (omega arith) (omega arith) n (omega arith) in
    let word = digits 10 false n in
    let some : nat_lt 0 (length word) ≡ true = grind (arith, nat_tests, are.0) in
    let short : length word ≤ 20 = digits_length 10 false (omega arith) 20 n (omega arith) (omega arith) (omega arith) in
    let few : nat_le (length word) 20 ≡ true = grind (arith, nat_tests, short) in
    let fits : nat_lt n (2 ^ 64) ≡ true = grind (arith, nat_tests, small) in
    not_hexadecimal word (digits-plain 10 (omega arith) (omega arith) n (omega arith)) ∙ rw (some, few, all_digits_from word are.1, are.2, fits) refl

digits-number_of : (n : ℕ) (word : List ℕ) → has_leading_zero word ≡ false → number_of word ≡ Some n → (n < 2 ^ 64) × (word ≡ digits 10 false n)
digits-number_of n word plain e =
    let value = digits_value 10 word in
    let tests = when (are_digits 10 20 word && nat_lt value (2 ^ 64)) value n (sym (not_hexadecimal word plain) ∙ e) in
    let both = and_true (are_digits 10 20 word) (nat_lt value (2 ^ 64)) tests.0 in
    let lengths = and_true (nat_lt 0 (length word)) (nat_le (length word) 20 && all_digits_in 10 word) both.0 in
    let rest = and_true (nat_le (length word) 20) (all_digits_in 10 word) lengths.1 in
    let some : 0 < length word = grind (arith, nat_tests, lengths.0) in
    let fits : value < 2 ^ 64 = grind (arith, nat_tests, both.1) in
    let text : digits 10 false value ≡ word = decimal-digits_value own word (all_digits_are word rest.1) some (only_zero word plain some) fits in
    (omega (arith, fits, tests.1), sym text ∙ ap (digits 10 false) tests.1)

pub decimal_none : (most : ℕ) (word : List ℕ) → most < 2 ^ 64 → has_leading_zero word ≡ false → number_of word ≡ None → number_in_radix 10 (most + 1) word ≡ None
decimal_none most word fits plain none = written-none 10 (omega arith) (omega arith) (most + 1) word (λ n lt is.
    let some : number_of word ≡ Some n = ap number_of is ∙ number_of-digits n (omega (arith, lt, fits)) in
    absurd cc)

pub decimal_some : (most n : ℕ) (word : List ℕ) → most < 2 ^ 64 → has_leading_zero word ≡ false → number_of word ≡ Some n → n ≤ most → number_in_radix 10 (most + 1) word ≡ Some n
decimal_some most n word fits plain some le =
    written-is 10 (omega arith) (omega arith) (most + 1) n word (omega arith) (omega (arith, fits)) (digits-number_of n word plain some).1
