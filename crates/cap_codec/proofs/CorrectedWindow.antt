-- An address keeps the bounds where its distance from the window's start, modulo 2 ^ 64, has no bit above the window.
use Rattle.std.proofs.Common.{◌≡◌, ℕ, ◌+◌, ◌-◌, ◌*◌, ◌/◌, ◌%◌, ◌^◌, ◌<◌, ◌≤◌, Bool, true, false, inr, sym, ap, ◌∙◌, refl, arith, nat_lt, ⊎_elim, IsTrue, ◌↔◌}
use Rattle.std.specs.Prelude.{ℤ, pos, ◌+ℤ◌, ◌-ℤ◌, ◌*ℤ◌, ◌==◌}
use Rattle.std.proofs.Math.Nat.{add-mul-mod_self_left, div-add-mod, mod-lt, mul-le-mul_right, pow-le-pow_right}
use Rattle.std.proofs.lemmas.Bool.Decides.{nat_tests}
use Rattle.std.proofs.lemmas.Int.{ints}
use Rattle.std.proofs.lemmas.Nat.{div_below, pow-add, pow_pos}
use Rattle.cap_codec.specs.declared.word.Fields.{Fields}
use Rattle.cap_codec.specs.Bounds.{origin, window_size, window_start}
use Rattle.cap_codec.specs.Corrections.{place_with}
use Rattle.cap_codec.specs.Fields.{bit_of}
use Rattle.cap_codec.specs.Integers.{IsCongruent}
use Rattle.cap_codec.specs.Mantissas.{exponent_of}
use Rattle.cap_codec.specs.Representable.{IsInWindow}
use Rattle.cap_codec.proofs.BoundsLaws.{IsWindowAt-window_start}
use Rattle.cap_codec.proofs.IntegerCorrections.{start_eighth, window_start-corrected}
use Rattle.cap_codec.proofs.WindowLaws.{in_window, near_start, window_offset}

-- low is the window's start modulo 2 ^ 64, each part under a name of its own.
pub start-congruent : (f : Fields) {e s n y low : ℕ} {z : ℤ} → e ≡ exponent_of f → s ≡ start_eighth f → n ≡ s * 2 ^ 11
    → y ≡ f.address / 2 ^ (e + 11) % 8 → z ≡ pos 0 -ℤ pos (bit_of (nat_lt y s))
    → IsCongruent (2 ^ 64) (pos low) ((pos (f.address / 2 ^ (e + 14)) +ℤ z) *ℤ pos (2 ^ (e + 14)) +ℤ pos (n * 2 ^ e))
    → IsCongruent (2 ^ 64) (pos low) (pos (window_start f) -ℤ pos origin)
start-congruent f {e} {s} {n} {y} {low} {z} e_is s_is n_is y_is z_is c =
    let here : nat_lt y s ≡ nat_lt (f.address / 2 ^ (exponent_of f + 11) % 8) (start_eighth f) =
    ap (λ x. nat_lt x s) (y_is ∙ ap (λ x. f.address / 2 ^ (x + 11) % 8) e_is) ∙ ap (λ x. nat_lt (f.address / 2 ^ (exponent_of f + 11) % 8) x) s_is in
    let start = window_start-corrected f (nat_lt y s) here in
    let place : IsCongruent (2 ^ 64) (pos low) (place_with f (pos 0 -ℤ pos (bit_of (nat_lt y s))) (start_eighth f * 2 ^ 11)) =
    rw (e_is, z_is, n_is ∙ ap (λ x. x * 2 ^ 11) s_is) at c in
    rw start place

offset-is : (f : Fields) (a low : ℕ) → low < 2 ^ 64 → IsCongruent (2 ^ 64) (pos low) (pos (window_start f) -ℤ pos origin)
    → f.address < 2 ^ 64 → (a + (2 ^ 64 - low)) % 2 ^ 64 ≡ window_offset f a
offset-is f a low small c h =
    let sum : low + 2 ^ 64 * (c.i + 4) ≡ window_start f + 2 ^ 64 * c.j = omega (arith, ints, c.same) in
    let same : low % 2 ^ 64 ≡ window_start f % 2 ^ 64 =
    sym (add-mul-mod_self_left low (2 ^ 64) (c.i + 4)) ∙ (ap (λ x. x % 2 ^ 64) sum ∙ add-mul-mod_self_left (window_start f) (2 ^ 64) c.j) in
    let w = IsWindowAt-window_start f in
    omega (arith, w.holds)

-- The bits above a window are 0 where a number is less than the window's size.
no_bits_above : (e x : ℕ) → x < 2 ^ (e + 14) → x / 2 ^ e / 2 ^ 14 ≡ 0
no_bits_above e x h =
    let d = pow-add 2 e 14 in
    let below = div_below x (2 ^ e) (2 ^ 14) (pow_pos e) (omega arith) in
    omega arith

below_size : (e x : ℕ) → x / 2 ^ e / 2 ^ 14 ≡ 0 → x < 2 ^ (e + 14)
below_size e x z =
    let d = pow-add 2 e 14 in
    let whole = div-add-mod x (2 ^ e) in
    let rest = mod-lt x (pow_pos e) in
    let room : (x / 2 ^ e + 1) * 2 ^ e ≤ 2 ^ 14 * 2 ^ e = mul-le-mul_right (2 ^ e) (omega arith) in
    omega arith

pub in_window-test : (f : Fields) (e a low : ℕ) → e ≡ exponent_of f → f.address < 2 ^ 64 → low < 2 ^ 64
    → IsCongruent (2 ^ 64) (pos low) (pos (window_start f) -ℤ pos origin)
    → IsTrue ((a + (2 ^ 64 - low)) % 2 ^ 64 / 2 ^ e / 2 ^ 14 == 0) ↔ IsInWindow f a
in_window-test f e a low e_is h small c =
    let x = (a + (2 ^ 64 - low)) % 2 ^ 64 in
    let x_lt : x < 2 ^ 64 = omega arith in
    let offset : x ≡ window_offset f a = offset-is f a low small c h in
    let size : 2 ^ (e + 14) ≡ window_size f = ap (λ k. 2 ^ (k + 14)) e_is in
    let forth : IsTrue (x / 2 ^ e / 2 ^ 14 == 0) → IsInWindow f a = λ t.
    let zero : x / 2 ^ e / 2 ^ 14 ≡ 0 = grind (arith, nat_tests) in
    in_window f a h (inr (omega (arith, below_size e x zero))) in
    let test : x < 2 ^ (e + 14) → IsTrue (x / 2 ^ e / 2 ^ 14 == 0) = λ l.
    let zero = no_bits_above e x l in
    grind (arith, nat_tests) in
    let wide : 50 ≤ exponent_of f → x < 2 ^ (e + 14) = λ l.
    let more : 64 ≤ e + 14 = omega arith in
    let p : 2 ^ 64 ≤ 2 ^ (e + 14) = pow-le-pow_right (omega arith) more in
    omega arith in
    (forth, λ i. ⊎_elim (λ l. test (wide l)) (λ l. test (omega (arith, l))) (near_start f a h i))

-- Tests that say the same are equal.
pub same_tests : (p q : Bool) → (IsTrue p → IsTrue q) → (IsTrue q → IsTrue p) → p ≡ q
same_tests true true f g = refl
same_tests true false f g = sym (f refl)
same_tests false true f g = g refl
same_tests false false f g = refl
