-- The digits of a number: those of its upper and its lower part, its last digit, and how many there are.
use Rattle.std.proofs.Common.{◌≡◌, ℕ, zero, suc, ◌+◌, ◌-◌, ◌*◌, ◌/◌, ◌%◌, ◌^◌, ◌<◌, ◌≤◌, inl, inr, Bool, false, List, [], ◌∷◌, ◌++◌, length, refl, sym, ap, ◌∙◌, arith, append_assoc, append-nil, add-zero}
use Rattle.std.proofs.Math.ListN.{replicate}
use Rattle.std.proofs.Math.Arith.{mod-mul}
use Rattle.std.proofs.Math.Nat.{sub-zero, suc-sub-suc, pow-zero, pow-suc, pow-succ', one-le-pow, div-one, div-le_self, zero-div, zero-mod, div-div-eq-div-mul, eq-zero-or-pos, mod-lt, mod-le}
use Rattle.std.specs.Fmt.{digits, digits_onto, digit_glyph, padded_integral, format_spec, char_count}
use Rattle.std.proofs.lemmas.Bool.{eq-eqb, ne_eqb}
use Rattle.std.proofs.lemmas.Nat.{div_below, div-mul-add, mod-mul-add, pow-add}

-- the last k digits of n, leading zeros among them, followed by rest
all_digits_onto : ℕ → ℕ → Bool → ℕ → List ℕ → List ℕ
all_digits_onto zero base upper n rest = rest
all_digits_onto (suc k) base upper n rest = all_digits_onto k base upper (n / base) (digit_glyph upper (n % base) ∷ rest)

-- what a formatter writes of a number's text under the options `0` and the width k
abbrev zero_padded : ℕ → List ℕ → List ℕ
zero_padded k numeral = padded_integral (format_spec 32 0 4 k (2 ^ 64 - 1)) false [] numeral

-- zeros stand before a text that is short of the width
zero_padded-replicate : (k : ℕ) (numeral : List ℕ) → zero_padded k numeral ≡ replicate (k - length numeral) 48 ++ numeral
unfolding padded_integral char_count
zero_padded-replicate k numeral = simp (sub-zero, append-nil)

-- one more of the same element may stand first or last
replicate-append_cons : (k a : ℕ) (xs : List ℕ) → replicate k a ++ (a ∷ xs) ≡ a ∷ (replicate k a ++ xs)
replicate-append_cons zero a xs = refl
replicate-append_cons (suc k) a xs = ap (λ ys. a ∷ ys) (replicate-append_cons k a xs)

module _ (base : ℕ) (upper : Bool) (two_or_more : 2 ≤ base) where
  -- k digits hold n, and one at least is written
  abbrev IsWithin : ℕ → ℕ → Type 0
  IsWithin k n = (0 < k) × (n < base ^ k)

  -- a number above 0 needs a digit
  IsWithin_positive : (k n : ℕ) → 0 < n → n < base ^ k → IsWithin k n
  IsWithin_positive zero n positive small = absurd (omega (arith, pow-zero base))
  IsWithin_positive (suc k) n positive small = (omega arith, small)

  -- the digits before the last
  IsWithin-front : (k n : ℕ) → IsWithin (suc k) n → 0 < n / base → IsWithin k (n / base)
  IsWithin-front k n (_, small) positive = IsWithin_positive k (n / base) positive (div_below n base (base ^ k) (omega arith) (rw pow-suc at small))

  -- the digits stand before the rest
  digits_onto-append : (k n : ℕ) (rest : List ℕ) → digits_onto k base upper n rest ≡ digits_onto k base upper n [] ++ rest
  digits_onto-append zero n rest = refl
  digits_onto-append (suc k) n rest = elim (eq-zero-or-pos (n / base)) [
    | inl none ↦ rw (eq-eqb (n / base) 0 none)
    | inr some ↦
        let last = digit_glyph upper (n % base) in
        rw (ne_eqb (n / base) 0 (omega arith), digits_onto-append k (n / base) (last ∷ rest), digits_onto-append k (n / base) (last ∷ []), append_assoc)
  ]

  -- how many digits are allowed does not matter, as long as they hold n
  digits_onto_within : (j k n : ℕ) (rest : List ℕ) → IsWithin j n → IsWithin k n → digits_onto j base upper n rest ≡ digits_onto k base upper n rest
  digits_onto_within zero k n rest by_j by_k = absurd (omega arith)
  digits_onto_within (suc j) zero n rest by_j by_k = absurd (omega arith)
  digits_onto_within (suc j) (suc k) n rest by_j by_k = elim (eq-zero-or-pos (n / base)) [
    | inl none ↦ rw (eq-eqb (n / base) 0 none)
    | inr some ↦ rw (ne_eqb (n / base) 0 (omega arith)) (digits_onto_within j k (n / base) _ (IsWithin-front j n by_j some) (IsWithin-front k n by_k some))
  ]

  -- the last k digits can be written first, where others stand before them
  digits_onto-split : (k m n : ℕ) (rest : List ℕ) → k ≤ m → 0 < n / base ^ k
      → digits_onto m base upper n rest ≡ digits_onto (m - k) base upper (n / base ^ k) (all_digits_onto k base upper n rest)
  unfolding all_digits_onto
  digits_onto-split zero m n rest room some = rw (sub-zero, pow-zero, div-one)
  digits_onto-split (suc k) zero n rest room some = absurd (omega arith)
  digits_onto-split (suc k) (suc m) n rest room some =
      let front : n / base ^ suc k ≡ n / base / base ^ k = ap (λ p. n / p) (pow-succ' base k) ∙ sym (div-div-eq-div-mul n base (base ^ k)) in
      let positive : n / base ≡ 0 → ⊥ = omega (arith, div-le_self (n / base) (base ^ k)) in
      rw (ne_eqb (n / base) 0 positive, front, suc-sub-suc) (digits_onto-split k m (n / base) _ (omega arith) (omega arith))

  -- the last k digits are those of the remainder
  all_digits_onto-mod : (k n : ℕ) (rest : List ℕ) → all_digits_onto k base upper (n % base ^ k) rest ≡ all_digits_onto k base upper n rest
  unfolding all_digits_onto
  all_digits_onto-mod zero n rest = refl
  all_digits_onto-mod (suc k) n rest =
      let parts : n % base ^ suc k ≡ (n / base % base ^ k) * base + n % base = ap (λ p. n % p) (pow-suc base k) ∙ mod-mul n (one-le-pow k base (omega arith)) (omega arith) in
      let below : n % base < base = mod-lt n (omega arith) in
      let front : n % base ^ suc k / base ≡ n / base % base ^ k = ap (λ low. low / base) parts ∙ div-mul-add _ base _ below in
      let last : n % base ^ suc k % base ≡ n % base = ap (λ low. low % base) parts ∙ mod-mul-add _ base _ below in
      rw (front, last) (all_digits_onto-mod k (n / base) _)

  -- all digits of 0
  all_digits_onto-zero : (k : ℕ) (rest : List ℕ) → all_digits_onto k base upper 0 rest ≡ replicate k 48 ++ rest
  unfolding all_digits_onto
  all_digits_onto-zero zero rest = refl
  all_digits_onto-zero (suc k) rest = rw (zero-div base, zero-mod base) (all_digits_onto-zero k (48 ∷ rest) ∙ replicate-append_cons k 48 rest)

  -- zeros stand before the digits of a number that k digits hold
  all_digits_onto-replicate : (k n : ℕ) (rest : List ℕ) → IsWithin k n
      → all_digits_onto k base upper n rest ≡ replicate (k + length rest - length (digits_onto k base upper n rest)) 48 ++ digits_onto k base upper n rest
  unfolding all_digits_onto
  all_digits_onto-replicate zero n rest within = absurd (omega arith)
  all_digits_onto-replicate (suc k) n rest within = elim (eq-zero-or-pos (n / base)) [
    | inl none ↦ rw (eq-eqb (n / base) 0 none, none) (all_digits_onto-zero k _ ∙ ap (λ j. replicate j 48 ++ (digit_glyph upper (n % base) ∷ rest)) (omega arith))
    | inr some ↦
        let room : suc k + length rest ≡ k + suc (length rest) = omega arith in
        rw (ne_eqb (n / base) 0 (omega arith), room) (all_digits_onto-replicate k (n / base) _ (IsWithin-front k n within some))
  ]

  -- the last k digits are the padded text of the remainder
  all_digits_onto-zero_padded : (k m n : ℕ) → 0 < k → k ≤ m → n < base ^ m
      → all_digits_onto k base upper n [] ≡ zero_padded k (digits_onto m base upper (n % base ^ k) [])
  all_digits_onto-zero_padded k m n positive room small =
      let low = n % base ^ k in
      let by_k : IsWithin k low = (positive, mod-lt n (one-le-pow k base (omega arith))) in
      let by_m : IsWithin m low = (omega arith, omega (arith, mod-le n (base ^ k))) in
      sym (all_digits_onto-mod k n []) ∙ all_digits_onto-replicate k low [] by_k
      ∙ ap (λ text. replicate (k + 0 - length text) 48 ++ text) (digits_onto_within k m low [] by_k by_m)
      ∙ rw add-zero (sym (zero_padded-replicate k _))

  -- the digits of the upper part can be written alone
  digits_onto-front : (k m n : ℕ) (rest : List ℕ) → k ≤ m → n < base ^ m → 0 < n / base ^ k
      → digits_onto (m - k) base upper (n / base ^ k) rest ≡ digits_onto m base upper (n / base ^ k) [] ++ rest
  digits_onto-front k m n rest room small some =
      let high = n / base ^ k in
      let whole : base ^ m ≡ base ^ (m - k) * base ^ k = ap (λ j. base ^ j) (omega arith) ∙ pow-add base (m - k) k in
      let below : high < base ^ (m - k) = div_below n (base ^ k) (base ^ (m - k)) (one-le-pow k base (omega arith)) (rw whole at small) in
      let by_m : IsWithin m high = IsWithin_positive m high some (omega (arith, div-le_self n (base ^ k))) in
      digits_onto_within (m - k) m high rest (IsWithin_positive (m - k) high some below) by_m ∙ digits_onto-append m high rest

  -- a number's digits are those of its upper part, and then the last k, leading zeros among them
  pub digits-parts : (k n : ℕ) → 0 < k → k ≤ 64 → n < base ^ 64 → 0 < n / base ^ k
      → digits base upper n ≡ digits base upper (n / base ^ k) ++ zero_padded k (digits base upper (n % base ^ k))
  unfolding digits
  digits-parts k n positive room small some =
      digits_onto-split k 64 n [] room some ∙ digits_onto-front k 64 n _ room small some
      ∙ ap (λ text. digits base upper (n / base ^ k) ++ text) (all_digits_onto-zero_padded k 64 n positive room small)

  -- the last digit stands behind the others
  pub digits_step : (n : ℕ) → 0 < n / base → n < base ^ 64
      → digits base upper n ≡ digits base upper (n / base) ++ (digit_glyph upper (n % base) ∷ [])
  unfolding digits
  digits_step n some small =
      let last = digit_glyph upper (n % base) ∷ [] in
      let within : IsWithin 63 (n / base) = IsWithin-front 63 n (omega arith, small) some in
      let by_64 : IsWithin 64 (n / base) = IsWithin_positive 64 (n / base) some (omega (arith, div-le_self n base)) in
      rw (ne_eqb (n / base) 0 (omega arith))
      (digits_onto-append 63 (n / base) last ∙ ap (λ text. text ++ last) (digits_onto_within 63 64 (n / base) [] within by_64))

  digits_onto-length : (k n : ℕ) (rest : List ℕ) → length (digits_onto k base upper n rest) ≤ k + length rest
  digits_onto-length zero n rest = omega arith
  digits_onto-length (suc k) n rest = elim (eq-zero-or-pos (n / base)) [
    | inl none ↦ rw (eq-eqb (n / base) 0 none) (omega arith)
    | inr some ↦ rw (ne_eqb (n / base) 0 (omega arith)) (omega (arith, digits_onto-length k (n / base) (digit_glyph upper (n % base) ∷ rest)))
  ]

  -- k digits at most
  pub digits_length : (k n : ℕ) → 0 < k → n < base ^ k → n < base ^ 64 → length (digits base upper n) ≤ k
  unfolding digits
  digits_length k n positive small wide =
      rw (digits_onto_within 64 k n [] (omega arith, wide) (positive, small)) (omega (arith, digits_onto-length k n []))
