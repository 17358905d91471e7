-- The corrections in integers.
use Rattle.std.proofs.Common.{◌≡◌, ℕ, ◌+◌, ◌*◌, ◌/◌, ◌%◌, ◌^◌, ◌<◌, refl, sym, ap, ◌∙◌, arith, Bool, true, false, nat_lt}
use Rattle.std.specs.Prelude.{ℤ, pos, ◌+ℤ◌, ◌-ℤ◌, ◌*ℤ◌}
use Rattle.std.proofs.lemmas.Bool.Decides.{nat_tests}
use Rattle.std.proofs.lemmas.Int.{ints}
use Rattle.std.proofs.lemmas.Nat.{pow-add}
use Rattle.cap_codec.specs.declared.word.Fields.{Fields}
use Rattle.cap_codec.specs.Bounds.{base_place, origin, place_in, top_place, window_mark, window_size, window_start}
use Rattle.cap_codec.specs.Corrections.{AreCorrections, place_with}
use Rattle.cap_codec.specs.Fields.{bit_of}
use Rattle.cap_codec.specs.Mantissas.{base_mantissa, exponent_of, top_mantissa}
use Rattle.cap_codec.proofs.BoundsLaws.{IsPlaceAt-place_in, IsPlaceOf-unique, IsWindow-unique, IsWindowAt-window_start}
use Rattle.cap_codec.proofs.CorrectionLaws.{IsBelow, place-is, start-is}
use Rattle.cap_codec.proofs.CountedBounds.{IsPlaceOf-counted, IsWindow-counted}
use Rattle.cap_codec.proofs.IntegerLaws.{multiple_cancel, multiple_is}
use Rattle.cap_codec.proofs.WindowSizes.{window_size-pos}

-- An equation of numbers in integers: h is taken from one side, j added to the other.
integer-form : (j h p a m c o : ℕ) → p + h * m ≡ o + a * m + j * m + c → pos p -ℤ pos o ≡ (pos a +ℤ (pos j -ℤ pos h)) *ℤ pos m +ℤ pos c
integer-form j h p a m c o e = omega (arith, ints, multiple_is (pos a +ℤ (pos j -ℤ pos h)) (a + j) h m (omega (arith, ints)))

IsBelow-test : (x y : ℕ) (b : Bool) → b ≡ nat_lt x y → IsBelow x y (bit_of b)
IsBelow-test x y true e = record { below = λ l. refl; above = λ l. absurd (grind (arith, nat_tests)) }
IsBelow-test x y false e = record { below = λ l. absurd (grind (arith, nat_tests)); above = λ l. refl }

-- The eighth of a window that its start is at.
abbrev pub start_eighth : Fields → ℕ
start_eighth f = (base_mantissa f / 2 ^ 11 + 7) % 8

place-corrected : (f : Fields) (n : ℕ) (there here : Bool) → n < 2 ^ 14
    → here ≡ nat_lt (f.address / 2 ^ (exponent_of f + 11) % 8) (start_eighth f)
    → there ≡ nat_lt (n / 2 ^ 11) (start_eighth f)
    → pos (place_in (window_start f) (window_size f) (n * 2 ^ exponent_of f)) -ℤ pos origin ≡ place_with f (pos (bit_of there) -ℤ pos (bit_of here)) n
place-corrected f n there here small h t =
    integer-form (bit_of there) (bit_of here) (place_in (window_start f) (window_size f) (n * 2 ^ exponent_of f)) (f.address / window_size f) (window_size f) (n * 2 ^ exponent_of f) origin
    (place-is f (bit_of here) (bit_of there) n small (IsBelow-test _ _ here h) (IsBelow-test _ _ there t))

-- The window's start, as the place of its eighth.
pub window_start-corrected : (f : Fields) (here : Bool) → here ≡ nat_lt (f.address / 2 ^ (exponent_of f + 11) % 8) (start_eighth f)
    → pos (window_start f) -ℤ pos origin ≡ place_with f (pos 0 -ℤ pos (bit_of here)) (start_eighth f * 2 ^ 11)
window_start-corrected f here e =
    let scaled : start_eighth f * 2 ^ 11 * 2 ^ exponent_of f ≡ window_mark f =
    let d : start_eighth f * 2 ^ (exponent_of f + 11) ≡ start_eighth f * (2 ^ exponent_of f * 2 ^ 11) = ap (λ x. start_eighth f * x) (pow-add 2 (exponent_of f) 11) in
    omega arith in
    integer-form 0 (bit_of here) (window_start f) (f.address / window_size f) (window_size f) (start_eighth f * 2 ^ 11 * 2 ^ exponent_of f) origin
    (omega (arith, start-is f (bit_of here) (IsBelow-test _ _ here e)))

-- The corrections by comparisons of 3 bits.
pub AreCorrections-tests : (f : Fields) {here base top : Bool} {first second : ℤ} → base_mantissa f < 2 ^ 14 → top_mantissa f < 2 ^ 14
    → here ≡ nat_lt (f.address / 2 ^ (exponent_of f + 11) % 8) (start_eighth f)
    → base ≡ nat_lt (base_mantissa f / 2 ^ 11) (start_eighth f) → top ≡ nat_lt (top_mantissa f / 2 ^ 11) (start_eighth f)
    → first ≡ pos (bit_of base) -ℤ pos (bit_of here) → second ≡ pos (bit_of top) -ℤ pos (bit_of here)
    → AreCorrections f first second
AreCorrections-tests f {here} {base} {top} {first} {second} small_b small_t h b t first_is second_is =
    let size = window_size-pos f in
    record {
      low = pos (window_start f) -ℤ pos origin;
      b = pos (base_place f) -ℤ pos origin;
      t = pos (top_place f) -ℤ pos origin;
      window = IsWindow-counted (IsWindowAt-window_start f);
      b_place = IsPlaceOf-counted (IsPlaceAt-place_in (window_start f) (window_size f) (base_mantissa f * 2 ^ exponent_of f) size);
      t_place = IsPlaceOf-counted (IsPlaceAt-place_in (window_start f) (window_size f) (top_mantissa f * 2 ^ exponent_of f) size);
      b_is = place-corrected f (base_mantissa f) base here small_b h b ∙ ap (λ x. place_with f x (base_mantissa f)) (sym first_is);
      t_is = place-corrected f (top_mantissa f) top here small_t h t ∙ ap (λ x. place_with f x (top_mantissa f)) (sym second_is);
    }

-- Another correction leads a window away.
correction-unique : (m : ℕ) (a x y : ℤ) (c : ℕ) → 0 < m → (a +ℤ x) *ℤ pos m +ℤ pos c ≡ (a +ℤ y) *ℤ pos m +ℤ pos c → x ≡ y
correction-unique m a x y c h e =
    let same : a +ℤ x ≡ a +ℤ y = multiple_cancel (a +ℤ x) (a +ℤ y) m h (omega (arith, ints)) in
    omega (arith, ints)

-- A word has one pair of corrections.
pub AreCorrections-unique : {f : Fields} {first second first' second' : ℤ} → AreCorrections f first second → AreCorrections f first' second' → (first ≡ first') × (second ≡ second')
AreCorrections-unique {f} {first} {second} {first'} {second'} p q =
    let size = window_size-pos f in
    let low : p.low ≡ q.low = IsWindow-unique p.window q.window in
    let b : p.b ≡ q.b = IsPlaceOf-unique p.b_place (rw low q.b_place) in
    let t : p.t ≡ q.t = IsPlaceOf-unique p.t_place (rw low q.t_place) in (
      correction-unique (window_size f) (pos (f.address / window_size f)) first first' (base_mantissa f * 2 ^ exponent_of f) size (sym p.b_is ∙ (b ∙ q.b_is)),
      correction-unique (window_size f) (pos (f.address / window_size f)) second second' (top_mantissa f * 2 ^ exponent_of f) size (sym p.t_is ∙ (t ∙ q.t_is)),
    )
