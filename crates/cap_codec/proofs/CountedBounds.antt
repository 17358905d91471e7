-- The bounds of a word by integers counted from the origin, so that none of them is below 0. What holds of
-- these holds of the integers that they stand for.
use Rattle.std.proofs.Common.{◌≡◌, ℕ, ◌+◌, ◌-◌, ◌*◌, ◌/◌, ◌%◌, ◌^◌, ◌<◌, ◌≤◌, sym, subst, ◌∙◌, arith}
use Rattle.std.specs.Prelude.{pos, ◌-ℤ◌}
use Rattle.std.proofs.lemmas.Int.{ints}
use Rattle.cap_codec.specs.declared.word.Fields.{Fields}
use Rattle.cap_codec.specs.Integers.{IsCongruent}
use Rattle.cap_codec.specs.Mantissas.{base_mantissa, exponent_of, top_mantissa}
use Rattle.cap_codec.specs.Bounds.{IsBase, IsBounds, IsPlaceOf, IsTop, IsWindow, origin, window_mark, window_size}
use Rattle.cap_codec.proofs.IntegerLaws.{IsCongruent-sym, congruent_shifted}
use Rattle.cap_codec.proofs.PlaceLaws.{near_congruent}
use Rattle.cap_codec.proofs.WindowSizes.{origin_is_multiple}

pub record IsWindowAt (f : Fields) (low : ℕ) : Type 0 where
  pub holds : low ≤ origin + f.address
  pub ends : origin + f.address < low + window_size f
  pub congruent : low % window_size f ≡ window_mark f % window_size f

-- No two windows of a word hold its address.
pub IsWindowAt-unique : {f : Fields} {m n : ℕ} → IsWindowAt f m → IsWindowAt f n → m ≡ n
IsWindowAt-unique {f} {m} {n} p q = near_congruent (window_size f) m n (p.congruent ∙ sym q.congruent) (omega arith) (omega arith)

pub record IsPlaceAt (low size x n : ℕ) : Type 0 where
  pub from : low ≤ n
  pub before : n < low + size
  pub congruent : n % size ≡ x % size

pub record IsTopAt (exponent base t top : ℕ) : Type 0 where
  pub fits : top < 2 ^ 65
  pub congruent : top % 2 ^ 64 ≡ t % 2 ^ 64
  pub large : 51 ≤ exponent → top ≡ t % 2 ^ 65
  pub small : exponent < 51 → (top / 2 ^ 63 + 4 - base / 2 ^ 63) % 4 ≤ 1

pub record IsBoundsAt (f : Fields) (base top : ℕ) : Type 0 where
  pub low : ℕ
  pub b : ℕ
  pub t : ℕ
  pub window : IsWindowAt f low
  pub b_place : IsPlaceAt low (window_size f) (base_mantissa f * 2 ^ exponent_of f) b
  pub t_place : IsPlaceAt low (window_size f) (top_mantissa f * 2 ^ exponent_of f) t
  pub base_is : base ≡ b % 2 ^ 64
  pub top_is : IsTopAt (exponent_of f) base t top

-- What a number counted from the origin is congruent to, the integer that it stands for is too.
congruent_at : (f : Fields) (n x : ℕ) → n % window_size f ≡ x % window_size f → IsCongruent (window_size f) (pos n -ℤ pos origin) (pos x)
congruent_at f n x e =
    let P : ℕ → Type 0 = λ o. IsCongruent (window_size f) (pos n -ℤ pos o) (pos x) in
    subst P (sym (origin_is_multiple f)) (IsCongruent-sym (congruent_shifted (window_size f) (2 ^ (52 - exponent_of f)) x n (sym e)))

pub IsWindow-counted : {f : Fields} {low : ℕ} → IsWindowAt f low → IsWindow f (pos low -ℤ pos origin)
IsWindow-counted {f} {low} w =
    record {
      holds = record { from = omega (arith, ints, w.holds); before = omega (arith, ints, w.ends) };
      start = congruent_at f low (window_mark f) w.congruent;
    }

pub IsPlaceOf-counted : {f : Fields} {low mantissa n : ℕ} → IsPlaceAt low (window_size f) (mantissa * 2 ^ exponent_of f) n
    → IsPlaceOf f (pos low -ℤ pos origin) mantissa (pos n -ℤ pos origin)
IsPlaceOf-counted {f} {mantissa} {n} p =
    record {
      within = record { from = omega (arith, ints, p.from); before = omega (arith, ints, p.before) };
      congruent = congruent_at f n (mantissa * 2 ^ exponent_of f) p.congruent;
    }

IsBase-counted : (b base : ℕ) → base ≡ b % 2 ^ 64 → IsBase (pos b -ℤ pos origin) base
IsBase-counted b base e = record { fits = omega arith; congruent = congruent_shifted (2 ^ 64) 4 base b (omega arith) }

IsTop-counted : {e base t top : ℕ} → IsTopAt e base t top → IsTop e base (pos t -ℤ pos origin) top
IsTop-counted {t} {top} p =
    record {
      fits = p.fits;
      congruent = congruent_shifted (2 ^ 64) 4 top t p.congruent;
      large = λ l. congruent_shifted (2 ^ 65) 2 top t (omega (arith, p.large l));
      small = p.small;
    }

-- Bounds that meet the relation counted from the origin meet it in integers.
pub IsBounds-counted : {f : Fields} {base top : ℕ} → IsBoundsAt f base top → IsBounds f base top
IsBounds-counted {base} {top} p = record {
  low = pos p.low -ℤ pos origin;
  b = pos p.b -ℤ pos origin;
  t = pos p.t -ℤ pos origin;
  window = IsWindow-counted p.window;
  b_place = IsPlaceOf-counted p.b_place;
  t_place = IsPlaceOf-counted p.t_place;
  base_is = IsBase-counted p.b base p.base_is;
  top_is = IsTop-counted p.top_is;
}
