-- The bounds from the corrections, modulo 2 ^ 64, and bit 64 of the top.
use Rattle.std.proofs.Common.{◌≡◌, ℕ, suc, ◌+◌, ◌-◌, ◌*◌, ◌/◌, ◌%◌, ◌^◌, ◌<◌, ◌≤◌, sym, ap, ◌∙◌, arith, w64}
use Rattle.std.specs.Int.{cast_unsigned}
use Rattle.std.specs.Prelude.{ℤ, pos, negsuc, ◌+ℤ◌, ◌-ℤ◌, ◌*ℤ◌, ◌≤ℤ◌}
use Rattle.std.proofs.Math.Nat.{add-mul-mod_self_left, div-div-eq-div-mul, mul-div-mul_right}
use Rattle.std.proofs.lemmas.Int.{ints}
use Rattle.std.proofs.lemmas.Nat.{div_below, pow-add, pow_pos}
use Rattle.cap_codec.specs.declared.word.Bounds.{Bounds}
use Rattle.cap_codec.specs.declared.word.Fields.{Fields}
use Rattle.cap_codec.specs.Bounds.{IsBounds, IsTop, bounds_of, window_size}
use Rattle.cap_codec.specs.Corrections.{AreCorrections, place_with}
use Rattle.cap_codec.specs.Integers.{IsCongruent}
use Rattle.cap_codec.specs.Mantissas.{base_mantissa, exponent_of, top_mantissa}
use Rattle.cap_codec.proofs.BoundsLaws.{IsBounds-bounds_of, IsBounds-unique, same_bounds}
use Rattle.cap_codec.proofs.IntegerLaws.{IsCongruent-sym, IsCongruent-trans, difference, multiple_is}
use Rattle.cap_codec.proofs.WindowSizes.{exponent_of-le}

-- x is a with an integer z added, modulo 2 ^ 64: z is p less q.
record IsMoved (a x : ℕ) (z : ℤ) : Type 0 where
  pub p : ℕ
  pub q : ℕ
  pub i : ℕ
  pub j : ℕ
  pub z_is : z ≡ pos p -ℤ pos q
  pub same : x + q + i * 2 ^ 64 ≡ a + p + j * 2 ^ 64

moved : (a x : ℕ) (z : ℤ) → pos 0 ≤ℤ (z +ℤ pos (2 ^ 64)) → x ≡ (a + cast_unsigned w64 z) % 2 ^ 64 → IsMoved a x z
moved a x (pos n) h e = record { p = n; q = 0; i = (a + n) / 2 ^ 64; j = 0; z_is = omega (arith, ints); same = omega arith }
moved a x (negsuc n) h e =
    let small : suc n ≤ 2 ^ 64 = omega (arith, ints) in
    record { p = 0; q = suc n; i = (a + (2 ^ 64 - suc n)) / 2 ^ 64; j = 1; z_is = omega (arith, ints); same = omega arith }

-- r is a mantissa n at its exponent below x, modulo 2 ^ 64.
pub place_with-congruent : (a e n : ℕ) {x r : ℕ} (z : ℤ) → pos 0 ≤ℤ (z +ℤ pos (2 ^ 64)) → x ≡ (a / 2 ^ e / 2 ^ 14 + cast_unsigned w64 z) % 2 ^ 64
    → r ≡ (x * 2 ^ 14 % 2 ^ 64 + n) * 2 ^ e % 2 ^ 64
    → IsCongruent (2 ^ 64) (pos r) ((pos (a / 2 ^ (e + 14)) +ℤ z) *ℤ pos (2 ^ (e + 14)) +ℤ pos (n * 2 ^ e))
place_with-congruent a e n {x} {r} z h x_is r_is =
    let u = 2 ^ e in
    let own = a / u / 2 ^ 14 in
    let w = moved own x z h x_is in
    let m_is : 2 ^ (e + 14) ≡ u * 2 ^ 14 = pow-add 2 e 14 in
    let own_is : a / 2 ^ (e + 14) ≡ own = ap (λ k. a / k) m_is ∙ sym (div-div-eq-div-mul a u (2 ^ 14)) in
    let s = x * 2 ^ 14 / 2 ^ 64 in
    let v = x * 2 ^ 14 % 2 ^ 64 in
    let t = (v + n) * u / 2 ^ 64 in
    let v_is : v + s * 2 ^ 64 ≡ x * 2 ^ 14 = omega arith in
    let v_scaled : (v + s * 2 ^ 64) * u ≡ x * 2 ^ 14 * u = ap (λ k. k * u) v_is in
    let r_whole : r + t * 2 ^ 64 ≡ (v + n) * u = omega arith in
    let scaled : (x + w.q + w.i * 2 ^ 64) * (u * 2 ^ 14) ≡ (own + w.p + w.j * 2 ^ 64) * (u * 2 ^ 14) = ap (λ k. k * (u * 2 ^ 14)) w.same in
    let z_is = w.z_is in
    let product : (pos (a / 2 ^ (e + 14)) +ℤ z) *ℤ pos (2 ^ (e + 14)) ≡ pos ((own + w.p) * 2 ^ (e + 14)) -ℤ pos (w.q * 2 ^ (e + 14)) =
    multiple_is (pos (a / 2 ^ (e + 14)) +ℤ z) (own + w.p) w.q (2 ^ (e + 14)) (omega (arith, ints)) in
    let up : (own + w.p) * 2 ^ (e + 14) ≡ (own + w.p) * (u * 2 ^ 14) = ap (λ k. (own + w.p) * k) m_is in
    let down : w.q * 2 ^ (e + 14) ≡ w.q * (u * 2 ^ 14) = ap (λ k. w.q * k) m_is in
    let i = t + s * u + w.i * (u * 2 ^ 14) in
    let j = w.j * (u * 2 ^ 14) in
    let sum : r + i * 2 ^ 64 + w.q * (u * 2 ^ 14) ≡ (own + w.p) * (u * 2 ^ 14) + n * u + j * 2 ^ 64 = omega arith in
    record { i = i; j = j; same = omega (arith, ints, product) }

-- ---- bit 64 of the top

-- A mantissa at an exponent below 51 has no bit 64.
pub no_bit_64 : (e n : ℕ) → e < 51 → n < 2 ^ 14 → n / 2 / 2 ^ (63 - e) ≡ 0
no_bit_64 e n h l =
    let s : 63 - e ≡ 50 - e + 13 = omega arith in
    let d : 2 ^ (63 - e) ≡ 2 ^ (50 - e) * 2 ^ 13 = ap (λ k. 2 ^ k) s ∙ pow-add 2 (50 - e) 13 in
    let p = pow_pos (50 - e) in
    let below : n / 2 / 2 ^ (63 - e) < 1 = div_below (n / 2) (2 ^ (63 - e)) 1 (pow_pos (63 - e)) (omega arith) in
    omega arith

pub bit_64-is : (e n : ℕ) → e ≤ 52 → n / 2 / 2 ^ (63 - e) ≡ n / 2 ^ (64 - e)
bit_64-is e n h =
    let s : 64 - e ≡ 1 + (63 - e) = omega arith in
    let d : 2 ^ (64 - e) ≡ 2 * 2 ^ (63 - e) = ap (λ k. 2 ^ k) s ∙ pow-add 2 1 (63 - e) in
    div-div-eq-div-mul n 2 (2 ^ (63 - e)) ∙ ap (λ k. n / k) (sym d)

-- Multiples of multiples of m change nothing modulo m.
multiple_congruent : (m k n : ℕ) (x : ℤ) → IsCongruent m (x *ℤ pos (k * m) +ℤ pos n) (pos n)
multiple_congruent m k n x =
    let d = difference x in
    let product = multiple_is x d.0 d.1 (k * m) d.2 in
    record { i = d.1 * k; j = d.0 * k; same = omega (arith, ints, product) }

-- Numbers that are congruent to one integer have one remainder.
remainders : {m : ℕ} {x y : ℕ} → IsCongruent m (pos x) (pos y) → x % m ≡ y % m
remainders {m} {x} {y} c =
    let e : x + m * c.i ≡ y + m * c.j = omega (arith, ints, c.same) in
    sym (add-mul-mod_self_left x m c.i) ∙ (ap (λ n. n % m) e ∙ add-mul-mod_self_left y m c.j)

-- Where a window is a multiple of 2 ^ 65, the top is what the mantissa says modulo 2 ^ 65.
large-top : (k n : ℕ) {low bit : ℕ} (x : ℤ) → low < 2 ^ 64 → bit ≡ n / 2 ^ 64 % 2 → IsCongruent (2 ^ 64) (pos low) (x *ℤ pos (k * 2 ^ 65) +ℤ pos n)
    → IsCongruent (2 ^ 65) (pos (bit * 2 ^ 64 + low)) (x *ℤ pos (k * 2 ^ 65) +ℤ pos n)
large-top k n {low} {bit} x small is c =
    let here : x *ℤ pos (2 * k * 2 ^ 64) +ℤ pos n ≡ x *ℤ pos (k * 2 ^ 65) +ℤ pos n =
    let s : 2 * k * 2 ^ 64 ≡ k * 2 ^ 65 = omega arith in ap (λ y. x *ℤ pos y +ℤ pos n) s in
    let lower : IsCongruent (2 ^ 64) (pos low) (pos n) =
    IsCongruent-trans (rw here c) (multiple_congruent (2 ^ 64) (2 * k) n x) in
    let alike : low % 2 ^ 64 ≡ n % 2 ^ 64 = remainders lower in
    let whole : IsCongruent (2 ^ 65) (pos (bit * 2 ^ 64 + low)) (pos n) = record { i = n / 2 ^ 65; j = 0; same = omega (arith, ints) } in
    IsCongruent-trans whole (IsCongruent-sym (multiple_congruent (2 ^ 65) k n x))

IsTop-large : (f : Fields) (z : ℤ) {low bit : ℕ} → low < 2 ^ 64 → 51 ≤ exponent_of f → bit ≡ top_mantissa f / 2 ^ (64 - exponent_of f) % 2
    → IsCongruent (2 ^ 64) (pos low) (place_with f z (top_mantissa f)) → IsCongruent (2 ^ 65) (pos (bit * 2 ^ 64 + low)) (place_with f z (top_mantissa f))
IsTop-large f z {bit} small large is c =
    let e = exponent_of f in
    let k = 2 ^ (e - 51) in
    let le = exponent_of-le f in
    let size : window_size f ≡ k * 2 ^ 65 = let s : e + 14 ≡ e - 51 + 65 = omega arith in ap (λ n. 2 ^ n) s ∙ pow-add 2 (e - 51) 65 in
    let whole : 2 ^ 64 ≡ 2 ^ (64 - e) * 2 ^ e = let s : 64 ≡ 64 - e + e = omega (arith, le) in ap (λ n. 2 ^ n) s ∙ pow-add 2 (64 - e) e in
    let bit_is : top_mantissa f * 2 ^ e / 2 ^ 64 ≡ top_mantissa f / 2 ^ (64 - e) =
    ap (λ n. top_mantissa f * 2 ^ e / n) whole ∙ mul-div-mul_right (top_mantissa f) (2 ^ (64 - e)) (pow_pos e) in
    let x = pos (f.address / window_size f) +ℤ z in
    let same : place_with f z (top_mantissa f) ≡ x *ℤ pos (k * 2 ^ 65) +ℤ pos (top_mantissa f * 2 ^ e) = ap (λ m. x *ℤ pos m +ℤ pos (top_mantissa f * 2 ^ e)) size in
    rw same (large-top k (top_mantissa f * 2 ^ e) x small (is ∙ ap (λ n. n % 2) (sym bit_is)) (rw same at c))

-- ---- the bounds

-- Base and top that are congruent to what the corrections say are the word's bounds.
IsBounds-corrected : {f : Fields} {first second : ℤ} {base low bit : ℕ} → AreCorrections f first second → base < 2 ^ 64 → low < 2 ^ 64 → bit ≤ 1
    → IsCongruent (2 ^ 64) (pos base) (place_with f first (base_mantissa f)) → IsCongruent (2 ^ 64) (pos low) (place_with f second (top_mantissa f))
    → (exponent_of f < 51 → (2 * bit + low / 2 ^ 63 + 4 - base / 2 ^ 63) % 4 ≤ 1)
    → (51 ≤ exponent_of f → bit ≡ top_mantissa f / 2 ^ (64 - exponent_of f) % 2)
    → IsBounds f base (bit * 2 ^ 64 + low)
IsBounds-corrected {f} {second} {base} {low} {bit} p small_base small_low small_bit base_is low_is small large =
    let top = bit * 2 ^ 64 + low in
    let t = place_with f second (top_mantissa f) in
    let lower : IsCongruent (2 ^ 64) (pos top) t = record { i = low_is.i; j = low_is.j + bit; same = omega (arith, ints, low_is.same) } in
    let top_is : IsTop (exponent_of f) base t top = record {
      fits = omega arith;
      congruent = lower;
      large = λ l. IsTop-large f second small_low l (large l) low_is;
      small = λ s. let h = small s in omega arith;
    } in
    record {
      low = p.low;
      b = p.b;
      t = p.t;
      window = p.window;
      b_place = p.b_place;
      t_place = p.t_place;
      base_is = record { fits = small_base; congruent = rw p.b_is base_is };
      top_is = rw p.t_is top_is;
    }

-- Bounds that meet the relation are those that the function gives.
pub bounds_of-unique : {f : Fields} {r : Bounds} → IsBounds f r.base r.top → r ≡ bounds_of f
bounds_of-unique {f} {r} h =
    let u = IsBounds-unique h (IsBounds-bounds_of f) in
    same_bounds r (bounds_of f) u.0 u.1

-- The same with each part under a name of its own.
pub IsBounds-parts : {f : Fields} {first second : ℤ} {e m n base low bit top : ℕ} → e ≡ exponent_of f → m ≡ base_mantissa f → n ≡ top_mantissa f
    → AreCorrections f first second
    → IsCongruent (2 ^ 64) (pos base) ((pos (f.address / 2 ^ (e + 14)) +ℤ first) *ℤ pos (2 ^ (e + 14)) +ℤ pos (m * 2 ^ e))
    → IsCongruent (2 ^ 64) (pos low) ((pos (f.address / 2 ^ (e + 14)) +ℤ second) *ℤ pos (2 ^ (e + 14)) +ℤ pos (n * 2 ^ e))
    → bit ≤ 1 → (e < 51 → (2 * bit + low / 2 ^ 63 + 4 - base / 2 ^ 63) % 4 ≤ 1) → (51 ≤ e → bit ≡ n / 2 ^ (64 - e) % 2)
    → base < 2 ^ 64 → low < 2 ^ 64 → top ≡ bit * 2 ^ 64 + low → IsBounds f base top
IsBounds-parts e_is m_is n_is p base_is low_is small_bit small large small_base small_low top_is =
    rw top_is (IsBounds-corrected p small_base small_low small_bit
    (rw (e_is, m_is) at base_is) (rw (e_is, n_is) at low_is) (rw e_is at small) (rw (e_is, n_is) at large))
