-- How large a window is.
use Rattle.std.proofs.Common.{◌≡◌, ℕ, ◌+◌, ◌-◌, ◌*◌, ◌^◌, ◌<◌, ◌≤◌, sym, ap, ◌∙◌, arith}
use Rattle.std.proofs.Math.Nat.{pow-le-pow_right}
use Rattle.std.proofs.lemmas.Nat.{pow-add, pow_pos}
use Rattle.cap_codec.specs.declared.word.Fields.{Fields}
use Rattle.cap_codec.specs.Mantissas.{exponent_of}
use Rattle.cap_codec.specs.Bounds.{origin, window_size}

pub exponent_of-le : (f : Fields) → exponent_of f ≤ 52
exponent_of-le f = grind arith

pub window_size-le : (f : Fields) → window_size f ≤ 2 ^ 66
window_size-le f =
    let h : exponent_of f + 14 ≤ 66 = omega (arith, exponent_of-le f) in
    pow-le-pow_right (omega arith) h

pub window_size-pos : (f : Fields) → 0 < window_size f
window_size-pos f = pow_pos (exponent_of f + 14)

-- The origin is a multiple of the size of each window.
pub origin_is : (e : ℕ) → e ≤ 52 → origin ≡ 2 ^ (52 - e) * 2 ^ (e + 14)
origin_is e h =
    let whole : 52 - e + (e + 14) ≡ 66 = omega arith in
    sym (ap (λ k. 2 ^ k) whole) ∙ pow-add 2 (52 - e) (e + 14)

pub origin_is_multiple : (f : Fields) → origin ≡ 2 ^ (52 - exponent_of f) * window_size f
origin_is_multiple f = origin_is (exponent_of f) (exponent_of-le f)
