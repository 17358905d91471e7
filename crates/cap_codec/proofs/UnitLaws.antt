-- Base and top of a word in units of its exponent.
use Rattle.std.proofs.Common.{◌≡◌, ℕ, ◌+◌, ◌-◌, ◌*◌, ◌/◌, ◌%◌, ◌^◌, ◌<◌, ◌≤◌, ◌⊎◌, true, false, inl, inr, refl, sym, ap, ◌∙◌, arith, ⊎_elim}
use Rattle.std.proofs.Math.Nat.{div-add-mod, mod-eq_of_lt, mul-le-mul_right}
use Rattle.std.proofs.lemmas.Bool.{cases_Bool}
use Rattle.std.proofs.lemmas.Bool.Decides.{nat_tests}
use Rattle.std.proofs.lemmas.Nat.{pow-add, pow_pos}
use Rattle.cap_codec.specs.declared.word.Fields.{Fields}
use Rattle.cap_codec.specs.Bounds.{base_place, place_in, top_place, window_mark, window_size, window_start}
use Rattle.cap_codec.specs.Fields.{IsValid}
use Rattle.cap_codec.specs.Mantissas.{base_mantissa, exponent_of, top_mantissa}
use Rattle.cap_codec.proofs.BoundsLaws.{IsWindowAt-window_start}
use Rattle.cap_codec.proofs.EncodeLaws.{mul-mod-mul}
use Rattle.cap_codec.proofs.IntegerCorrections.{start_eighth}
use Rattle.cap_codec.proofs.PlaceLaws.{near_congruent, place_in-congruent, place_in-lt}

-- In a window that starts at l units, a mantissa's place is the n units of the window that it says.
place_in-units : (e l n x low : ℕ) → low ≡ l * 2 ^ e → l ≤ n → n < l + 2 ^ 14 → n % 2 ^ 14 ≡ x % 2 ^ 14
    → place_in low (2 ^ (e + 14)) (x * 2 ^ e) ≡ n * 2 ^ e
place_in-units e l n x low low_is from before same =
    let u = 2 ^ e in
    let size = 2 ^ (e + 14) in
    let pos_u : 0 < u = pow_pos e in
    let pos_size : 0 < size = pow_pos (e + 14) in
    let size_is : size ≡ 2 ^ 14 * u = omega (arith, pow-add 2 e 14) in
    let left : (n * u) % (2 ^ 14 * u) ≡ n % 2 ^ 14 * u = mul-mod-mul n (2 ^ 14) u (omega arith) pos_u in
    let right : (x * u) % (2 ^ 14 * u) ≡ x % 2 ^ 14 * u = mul-mod-mul x (2 ^ 14) u (omega arith) pos_u in
    let alike : (n * u) % size ≡ (x * u) % size = rw size_is (left ∙ (ap (λ k. k * u) same ∙ sym right)) in
    let place = place_in low size (x * u) in
    let congruent : place % size ≡ (x * u) % size = place_in-congruent low size (x * u) pos_size in
    let after : place < low + size = place_in-lt low size (x * u) pos_size in
    let low_le : l * u ≤ n * u = mul-le-mul_right u from in
    let n_lt : (n + 1) * u ≤ (l + 2 ^ 14) * u = mul-le-mul_right u (omega arith) in
    near_congruent size place (n * u) (congruent ∙ sym alike) (omega arith) (omega arith)

-- The window's start in units.
start_units : Fields → ℕ
start_units f = window_start f / window_size f * 2 ^ 14 + start_eighth f * 2 ^ 11

window_start-units : (f : Fields) → window_start f ≡ start_units f * 2 ^ exponent_of f
unfolding start_units
window_start-units f =
    let e = exponent_of f in
    let u = 2 ^ e in
    let size = window_size f in
    let low = window_start f in
    let k = low / size in
    let s = start_eighth f in
    let size_is : size ≡ u * 2 ^ 14 = pow-add 2 e 14 in
    let eighth_is : 2 ^ (e + 11) ≡ u * 2 ^ 11 = pow-add 2 e 11 in
    let mark_is : window_mark f ≡ s * 2 ^ 11 * u = let x : s * 2 ^ (e + 11) ≡ s * (u * 2 ^ 11) = ap (λ x. s * x) eighth_is in omega arith in
    let few : s * 2 ^ 11 * u ≤ 7 * 2 ^ 11 * u = mul-le-mul_right u (omega arith) in
    let small : window_mark f < size = omega (arith, pow_pos e) in
    let rest : low % size ≡ window_mark f = (IsWindowAt-window_start f).congruent ∙ mod-eq_of_lt small in
    let whole : size * k + low % size ≡ low = div-add-mod low size in
    let scaled : size * k ≡ u * 2 ^ 14 * k = ap (λ x. x * k) size_is in
    omega arith

-- ---- the mantissas

base_mantissa-lt : (f : Fields) → IsValid f → base_mantissa f < 2 ^ 14
base_mantissa-lt f v = grind (arith, nat_tests)

-- By how many units the top is above the base.
length_units : Fields → ℕ
length_units f = (top_mantissa f + 2 ^ 14 - base_mantissa f) % 2 ^ 14

length_units-lt : (f : Fields) → IsValid f → length_units f < 2 ^ 13
unfolding length_units
length_units-lt f v = grind (arith, nat_tests)

length_units-short : (f : Fields) → IsValid f → f.internal ≡ false → length_units f < 2 ^ 12
unfolding length_units
length_units-short f v e = grind (arith, nat_tests)

base_mantissa-eights : (f : Fields) → f.internal ≡ true → base_mantissa f % 8 ≡ 0
base_mantissa-eights f e = grind (arith, nat_tests)

top_mantissa-eights : (f : Fields) → f.internal ≡ true → top_mantissa f % 8 ≡ 0
top_mantissa-eights f e = grind (arith, nat_tests)

-- ---- base and top

-- Base and top are b and t units. Without the internal exponent they are few units of 1, with it b and t are
-- multiples of 8.
pub record AreUnits (f : Fields) (b t : ℕ) : Type 0 where
  pub base : base_place f ≡ b * 2 ^ exponent_of f
  pub top : top_place f ≡ t * 2 ^ exponent_of f
  pub order : b ≤ t
  pub near : t < b + 2 ^ 13
  pub form : ((exponent_of f ≡ 0) × (t < b + 2 ^ 12)) ⊎ ((b % 8 ≡ 0) × (t % 8 ≡ 0))

-- The base is an eighth to a quarter of the window above its start, so the top comes before the window's end.
pub AreUnits-of : (f : Fields) → IsValid f → (b : ℕ) × (t : ℕ) × AreUnits f b t
unfolding start_units length_units
AreUnits-of f v =
    let l = start_units f in
    let base_lt = base_mantissa-lt f v in
    let length = length_units f in
    let length_lt : length < 2 ^ 13 = length_units-lt f v in
    let b = l + 2 ^ 11 + base_mantissa f % 2 ^ 11 in
    let t = b + length in
    let b_same : b % 2 ^ 14 ≡ base_mantissa f % 2 ^ 14 = omega arith in
    let t_same : t % 2 ^ 14 ≡ top_mantissa f % 2 ^ 14 = omega arith in
    let short : f.internal ≡ false → (exponent_of f ≡ 0) × (t < b + 2 ^ 12) = λ x. (rw x refl, omega (arith, length_units-short f v x)) in
    let long : f.internal ≡ true → (b % 8 ≡ 0) × (t % 8 ≡ 0) = λ x.
    let p = base_mantissa-eights f x in
    let q = top_mantissa-eights f x in
    (omega arith, omega arith) in (
      b,
      t,
      record {
        base = place_in-units (exponent_of f) l b (base_mantissa f) (window_start f) (window_start-units f) (omega arith) (omega arith) b_same;
        top = place_in-units (exponent_of f) l t (top_mantissa f) (window_start f) (window_start-units f) (omega arith) (omega arith) t_same;
        order = omega arith;
        near = omega arith;
        form = ⊎_elim (λ x. inr (long x)) (λ x. inl (short x)) (cases_Bool f.internal);
      },
    )
