-- A word that is made for bounds has them, rounded outward.
use Rattle.std.proofs.Common.{◌≡◌, ℕ, ◌+◌, ◌-◌, ◌*◌, ◌/◌, ◌%◌, ◌^◌, ◌<◌, ◌≤◌, true, false, refl, sym, ap, ◌∙◌, ⊎_elim, arith}
use Rattle.std.proofs.Math.Nat.{add-mul-mod_self_left, div-add-mod, mod-lt, mod-eq_of_lt, mul-le-mul_right, pow-le-pow_right}
use Rattle.std.proofs.lemmas.Bool.{cases_Bool, cases_lt}
use Rattle.std.proofs.lemmas.Bool.Decides.{nat_tests}
use Rattle.std.proofs.lemmas.Nat.{pow-add, pow_pos, shl-shr}
use Rattle.cap_codec.specs.declared.word.Fields.{Fields}
use Rattle.cap_codec.specs.Fields.{IsValid}
use Rattle.cap_codec.specs.Bounds.{bounds_of, origin, window_mark, window_size}
use Rattle.cap_codec.specs.Mantissas.{base_mantissa, exponent_of, top_mantissa}
use Rattle.cap_codec.specs.Rounding.{IsExponent, exponent_for, is_short, outward_bounds, outward_base, outward_top, round_down, round_up, with_bounds_of}
use Rattle.cap_codec.proofs.BoundsLaws.{IsBounds-bounds_of, IsBounds-unique, same_bounds}
use Rattle.cap_codec.proofs.CountedBounds.{IsBounds-counted, IsBoundsAt, IsPlaceAt, IsWindowAt}
use Rattle.cap_codec.proofs.WindowSizes.{origin_is}
use Rattle.cap_codec.proofs.RoundingLaws.{IsExponent-exponent_for, exponent_for-le, long_enough, round_down-le, round_down-near, round_up-room}

-- A multiple of v modulo m times v.
pub mul-mod-mul : (k m v : ℕ) → 0 < m → 0 < v → (k * v) % (m * v) ≡ k % m * v
mul-mod-mul k m v hm hv =
    let d = div-add-mod k m in
    let r = mod-lt k hm in
    let room : (k % m + 1) * v ≤ m * v = mul-le-mul_right v (omega arith) in
    let small : k % m * v < m * v = omega arith in
    let e : k * v ≡ k % m * v + (m * v) * (k / m) = let s : (m * (k / m) + k % m) * v ≡ k * v = ap (λ x. x * v) d in omega arith in
    ap (λ x. x % (m * v)) e ∙ (add-mul-mod_self_left (k % m * v) (m * v) (k / m) ∙ mod-eq_of_lt small)

-- In a window, n units of the exponent are the place of n's lower 14 bits as a mantissa.
IsPlaceAt-mantissa : (e o low n : ℕ) → origin ≡ o * 2 ^ (e + 14) → low ≤ origin + n * 2 ^ e → origin + n * 2 ^ e < low + 2 ^ (e + 14)
    → IsPlaceAt low (2 ^ (e + 14)) (n % 2 ^ 14 * 2 ^ e) (origin + n * 2 ^ e)
IsPlaceAt-mantissa e o low n oe p q =
    let m : 2 ^ (e + 14) ≡ 2 ^ e * 2 ^ 14 = pow-add 2 e 14 in
    let d : 2 ^ 14 * (n / 2 ^ 14) + n % 2 ^ 14 ≡ n = div-add-mod n (2 ^ 14) in
    let s : (2 ^ 14 * (n / 2 ^ 14) + n % 2 ^ 14) * 2 ^ e ≡ n * 2 ^ e = ap (λ x. x * 2 ^ e) d in
    let whole : origin + n * 2 ^ e ≡ n % 2 ^ 14 * 2 ^ e + 2 ^ (e + 14) * (o + n / 2 ^ 14) =
    let g : 2 ^ (e + 14) * (o + n / 2 ^ 14) ≡ 2 ^ e * 2 ^ 14 * (o + n / 2 ^ 14) = ap (λ x. x * (o + n / 2 ^ 14)) m in
    let f : origin ≡ o * (2 ^ e * 2 ^ 14) = oe ∙ ap (λ x. o * x) m in
    omega arith in
    record {
      from = p;
      before = q;
      congruent = ap (λ x. x % 2 ^ (e + 14)) whole ∙ add-mul-mod_self_left (n % 2 ^ 14 * 2 ^ e) (2 ^ (e + 14)) (o + n / 2 ^ 14);
    }

pow-63 : (e : ℕ) → e < 51 → 2 ^ (e + 13) ≤ 2 ^ 63
pow-63 e h = let k : e + 13 ≤ 63 = omega arith in pow-le-pow_right (omega arith) k

near_top : (b t : ℕ) → b ≤ t → t ≤ b + 2 ^ 63 → (t / 2 ^ 63 + 4 - b / 2 ^ 63) % 4 ≤ 1
near_top b t h l = omega arith

-- Fields whose mantissas are the lower 14 bits of b and t have the bounds of b and t units, where the
-- address is not far above the base and the length is at most half a window.
IsBoundsAt-mantissas : (g : Fields) (e b t : ℕ) → e ≤ 52 → exponent_of g ≡ e → base_mantissa g ≡ b % 2 ^ 14 → top_mantissa g ≡ t % 2 ^ 14
    → b * 2 ^ e ≤ g.address → g.address < b * 2 ^ e + 2 ^ (e + 12) → g.address < 2 ^ 64 → b ≤ t → t ≤ b + 2 ^ 13 → t * 2 ^ e ≤ 2 ^ 64
    → IsBoundsAt g (b * 2 ^ e) (t * 2 ^ e)
IsBoundsAt-mantissas g e b t h ee be te below above small order long room =
    let u = 2 ^ e in
    let v = 2 ^ (e + 11) in
    let o = 2 ^ (52 - e) in
    let pos_o : 0 < o = pow_pos (52 - e) in
    let oe : origin ≡ o * 2 ^ (e + 14) = origin_is e h in
    let v_is : v ≡ u * 2 ^ 11 = pow-add 2 e 11 in
    let m_is : 2 ^ (e + 14) ≡ u * 2 ^ 14 = pow-add 2 e 14 in
    let m_v : 2 ^ (e + 14) ≡ 8 * v = omega arith in
    let w_is : 2 ^ (e + 12) ≡ u * 2 ^ 12 = pow-add 2 e 12 in
    let q = b / 2 ^ 11 in
    let r = b % 2 ^ 11 in
    let split : b * u ≡ q * v + r * u =
    let d : 2 ^ 11 * q + r ≡ b = div-add-mod b (2 ^ 11) in
    let x : (2 ^ 11 * q + r) * u ≡ b * u = ap (λ x. x * u) d in
    let y : q * v ≡ q * (u * 2 ^ 11) = ap (λ x. q * x) v_is in
    omega arith in
    let part : r * u ≤ 2047 * u = mul-le-mul_right u (omega arith) in
    let span : t * u ≤ (b + 2 ^ 13) * u = mul-le-mul_right u long in
    let rises : b * u ≤ t * u = mul-le-mul_right u order in
    let pos_u : 0 < u = pow_pos e in
    let n = 8 * o + q - 1 in
    let low = n * v in
    let low_is : low + v ≡ origin + q * v =
    let x : (n + 1) * v ≡ (8 * o + q) * v = ap (λ x. x * v) (omega arith) in
    let y : o * 2 ^ (e + 14) ≡ o * (8 * v) = ap (λ x. o * x) m_v in
    omega arith in
    let mark = (b % 2 ^ 14 / 2 ^ 11 + 7) % 8 in
    let mark_is : window_mark g ≡ mark * v =
    ap (λ x. (x / 2 ^ 11 + 7) % 8 * 2 ^ (exponent_of g + 11)) be ∙ ap (λ x. mark * 2 ^ (x + 11)) ee in
    let size_is : window_size g ≡ 2 ^ (e + 14) = ap (λ x. 2 ^ (x + 14)) ee in
    let pos_v : 0 < v = pow_pos (e + 11) in
    let same : n % 8 ≡ mark % 8 = omega arith in
    let congruent : low % window_size g ≡ window_mark g % window_size g =
    let l : low % (8 * v) ≡ n % 8 * v = mul-mod-mul n 8 v (omega arith) pos_v in
    let k : (mark * v) % (8 * v) ≡ mark % 8 * v = mul-mod-mul mark 8 v (omega arith) pos_v in
    rw (mark_is, size_is, m_v) (l ∙ (ap (λ x. x * v) same ∙ sym k)) in
    let window : IsWindowAt g low = record { holds = omega arith; ends = rw size_is (omega arith); congruent = congruent } in
    let scale : 2 ^ exponent_of g ≡ u = ap (λ x. 2 ^ x) ee in
    let b_place : IsPlaceAt low (window_size g) (base_mantissa g * 2 ^ exponent_of g) (origin + b * u) =
    rw (size_is, be, scale) (IsPlaceAt-mantissa e o low b oe (omega arith) (omega arith)) in
    let t_place : IsPlaceAt low (window_size g) (top_mantissa g * 2 ^ exponent_of g) (origin + t * u) =
    rw (size_is, te, scale) (IsPlaceAt-mantissa e o low t oe (omega arith) (omega arith)) in
    let half : e < 51 → u * 2 ^ 13 ≤ 2 ^ 63 = λ l. omega (arith, pow-add 2 e 13, pow-63 e l) in
    record {
      low = low;
      b = origin + b * u;
      t = origin + t * u;
      window = window;
      b_place = b_place;
      t_place = t_place;
      base_is = omega arith;
      top_is = record {
        fits = omega arith;
        congruent = omega arith;
        large = λ l. omega arith;
        small = λ l. near_top (b * u) (t * u) rises (omega (arith, half (rw ee at l)));
      };
    }

-- ---- the mantissas of fields made from bounds

-- The fields have this exponent, and the mantissas of b and t.
record Stands (g : Fields) (e b t : ℕ) : Type 0 where
  pub exponent : exponent_of g ≡ e
  pub base : base_mantissa g ≡ b % 2 ^ 14
  pub top : top_mantissa g ≡ t % 2 ^ 14

Stands-short : (f : Fields) (base top : ℕ) → base ≤ top → top - base < 2 ^ 12
    → Stands (let r : Fields = record f { internal = false; top12 = top % 2 ^ 12; base14 = base % 2 ^ 14; address = base } in r) 0 base top
Stands-short f base top h l = record { exponent = refl; base = refl; top = grind (arith, nat_tests) }

-- b and t are multiples of 8, and the exponent's halves stand in the low 3 bits.
Stands-long : (f : Fields) (e k j a : ℕ) → e ≤ 52 → 2 ^ 12 ≤ 8 * j - 8 * k → 8 * j - 8 * k < 2 ^ 13
    → Stands (let r : Fields = record f { internal = true; top12 = 8 * j % 2 ^ 12 + e / 8; base14 = 8 * k % 2 ^ 14 + e % 8; address = a } in r) e (8 * k) (8 * j)
Stands-long f e k j a h least most =
    let top_low : 8 * j % 2 ^ 12 + e / 8 - (8 * j % 2 ^ 12 + e / 8) % 8 ≡ 8 * j % 2 ^ 12 = omega arith in
    let base_is : 8 * k % 2 ^ 14 + e % 8 - (8 * k % 2 ^ 14 + e % 8) % 8 ≡ 8 * k % 2 ^ 14 = omega arith in
    record { exponent = omega arith; base = base_is; top = rw (top_low, base_is) (grind (arith, nat_tests)) }

-- ---- the bounds of fields made from bounds

unit_at : (e : ℕ) → 2 ^ (e + 3) ≡ 2 ^ e * 8
unit_at e = pow-add 2 e 3

-- A bound that is rounded for an exponent is a multiple of 8 at that exponent.
mantissa_eights : (e j : ℕ) → j * 2 ^ (e + 3) / 2 ^ e ≡ 8 * j
mantissa_eights e j =
    let s : j * 2 ^ (e + 3) ≡ 8 * j * 2 ^ e = let m : j * 2 ^ (e + 3) ≡ j * (2 ^ e * 8) = ap (λ x. j * x) (unit_at e) in omega arith in
    ap (λ x. x / 2 ^ e) s ∙ shl-shr (8 * j) e

bounds_long : (f : Fields) (base top e : ℕ) → IsExponent base top e → e ≤ 52 → base ≤ top → top ≤ 2 ^ 64 → base < 2 ^ 64 → 2 ^ 12 ≤ top - base
    → IsBoundsAt (let r : Fields = record f {
      internal = true;
      top12 = round_up (e + 3) top / 2 ^ e % 2 ^ 12 + e / 8;
      base14 = round_down (e + 3) base / 2 ^ e % 2 ^ 14 + e % 8;
      address = base;
    } in r)
    (round_down (e + 3) base) (round_up (e + 3) top)
bounds_long f base top e x h order room small long =
    let u = 2 ^ e in
    let pos_u : 0 < u = pow_pos e in
    let k = base / 2 ^ (e + 3) in
    let j = (top + (2 ^ (e + 3) - 1)) / 2 ^ (e + 3) in
    let down : round_down (e + 3) base ≡ 8 * k * u = let s : k * 2 ^ (e + 3) ≡ k * (u * 8) = ap (λ x. k * x) (unit_at e) in omega arith in
    let up : round_up (e + 3) top ≡ 8 * j * u = let s : j * 2 ^ (e + 3) ≡ j * (u * 8) = ap (λ x. j * x) (unit_at e) in omega arith in
    let least = long_enough base top e x order long in
    let fits = x.fits in
    let p12 : 2 ^ (e + 12) ≡ u * 2 ^ 12 = pow-add 2 e 12 in
    let p13 : 2 ^ (e + 13) ≡ u * 2 ^ 13 = pow-add 2 e 13 in
    let long_k : 8 * j < 8 * k + 2 ^ 12 → ⊥ = λ c. let m : (8 * j + 1) * u ≤ (8 * k + 2 ^ 12) * u = mul-le-mul_right u (omega arith) in omega arith in
    let most_k : 8 * k + 2 ^ 13 ≤ 8 * j → ⊥ = λ c. let m : (8 * k + 2 ^ 13) * u ≤ 8 * j * u = mul-le-mul_right u c in omega arith in
    let lower : 2 ^ 12 ≤ 8 * j - 8 * k = omega arith in
    let upper : 8 * j - 8 * k < 2 ^ 13 = omega arith in
    let k_is : round_down (e + 3) base / u ≡ 8 * k = mantissa_eights e k in
    let j_is : round_up (e + 3) top / u ≡ 8 * j = mantissa_eights e j in
    let s = Stands-long f e k j base h lower upper in
    let top_room : round_up (e + 3) top ≤ 2 ^ 64 = round_up-room e top h room in
    let near : base < round_down (e + 3) base + 2 ^ (e + 3) = round_down-near (e + 3) base in
    let u3 = unit_at e in
    rw (k_is, j_is, down, up) (IsBoundsAt-mantissas _ e (8 * k) (8 * j) h s.exponent s.base s.top
    (omega (arith, round_down-le (e + 3) base)) (omega arith) small (omega arith) (omega arith) (omega arith))

bounds_short : (f : Fields) (base top : ℕ) → base ≤ top → top ≤ 2 ^ 64 → base < 2 ^ 64 → top - base < 2 ^ 12
    → IsBoundsAt (let r : Fields = record f { internal = false; top12 = top % 2 ^ 12; base14 = base % 2 ^ 14; address = base } in r) base top
bounds_short f base top order room small short =
    let s = Stands-short f base top order short in
    let one : base * 2 ^ 0 ≡ base = omega arith in
    let one_top : top * 2 ^ 0 ≡ top = omega arith in
    let all = IsBoundsAt-mantissas (let r : Fields = record f { internal = false; top12 = top % 2 ^ 12; base14 = base % 2 ^ 14; address = base } in r)
    0 base top (omega arith) s.exponent s.base s.top (omega arith) (omega arith) small order (omega arith) (omega arith) in
    rw (one, one_top) at all

-- ---- with_bounds_of

pub with_bounds_of-short : (f : Fields) (base top : ℕ) → top - base < 2 ^ 12
    → with_bounds_of f base top ≡ record f { internal = false; top12 = top % 2 ^ 12; base14 = base % 2 ^ 14; address = base }
unfolding with_bounds_of
with_bounds_of-short f base top h = let short : is_short base top ≡ true = grind (arith, nat_tests) in rw short refl

pub with_bounds_of-long : (f : Fields) (base top e : ℕ) → e ≡ exponent_for base top → 2 ^ 12 ≤ top - base
    → with_bounds_of f base top ≡ record f {
      internal = true;
      top12 = round_up (e + 3) top / 2 ^ e % 2 ^ 12 + e / 8;
      base14 = round_down (e + 3) base / 2 ^ e % 2 ^ 14 + e % 8;
      address = base;
    }
unfolding with_bounds_of
with_bounds_of-long f base top e is h = let long : is_short base top ≡ false = grind (arith, nat_tests) in rw (long, is) refl

pub IsValid-with_bounds_of : (f : Fields) (base top : ℕ) → IsValid f → IsValid (with_bounds_of f base top)
IsValid-with_bounds_of f base top v =
    let e = exponent_for base top in
    let le = exponent_for-le base top in
    let top_eights = mantissa_eights e ((top + (2 ^ (e + 3) - 1)) / 2 ^ (e + 3)) in
    let base_eights = mantissa_eights e (base / 2 ^ (e + 3)) in
    ⊎_elim
    (λ short. rw (with_bounds_of-short f base top short) (record { reserved = v.reserved; otype = v.otype; top12 = omega arith; base14 = omega arith }))
    (λ long. rw (with_bounds_of-long f base top e refl long) (record { reserved = v.reserved; otype = v.otype; top12 = omega arith; base14 = omega arith }))
    (cases_lt (top - base) (2 ^ 12))

-- The exponent of the fields, where the bounds aren't short.
pub exponent_of-with_bounds_of : (f : Fields) (base top : ℕ) → 2 ^ 12 ≤ top - base → exponent_of (with_bounds_of f base top) ≡ exponent_for base top
exponent_of-with_bounds_of f base top h =
    let e = exponent_for base top in
    let le = exponent_for-le base top in
    let top_eights = mantissa_eights e ((top + (2 ^ (e + 3) - 1)) / 2 ^ (e + 3)) in
    let base_eights = mantissa_eights e (base / 2 ^ (e + 3)) in
    rw (with_bounds_of-long f base top e refl h) (omega arith)

IsBoundsAt-with_bounds_of : (f : Fields) (base top : ℕ) → base ≤ top → top ≤ 2 ^ 64 → base < 2 ^ 64
    → IsBoundsAt (with_bounds_of f base top) (outward_base base top) (outward_top base top)
unfolding with_bounds_of
IsBoundsAt-with_bounds_of f base top order room small =
    ⊎_elim
    (λ t. let l : top - base < 2 ^ 12 = grind (arith, nat_tests) in rw t (bounds_short f base top order room small l))
    (λ n. let l : 2 ^ 12 ≤ top - base = grind (arith, nat_tests) in
    rw n (bounds_long f base top (exponent_for base top) (IsExponent-exponent_for base top order room) (exponent_for-le base top) order room small l))
    (cases_Bool (is_short base top))

pub bounds_of-with_bounds_of : (f : Fields) (base top : ℕ) → base ≤ top → top ≤ 2 ^ 64 → base < 2 ^ 64 → bounds_of (with_bounds_of f base top) ≡ outward_bounds base top
bounds_of-with_bounds_of f base top order room small =
    let g = with_bounds_of f base top in
    let meets = IsBounds-counted (IsBoundsAt-with_bounds_of f base top order room small) in
    let u = IsBounds-unique (IsBounds-bounds_of g) meets in
    same_bounds (bounds_of g) (outward_bounds base top) u.0 u.1
