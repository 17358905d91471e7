-- Congruent integers, and multiples of integers.
use Rattle.std.proofs.Common.{◌≡◌, ℕ, suc, ◌+◌, ◌*◌, ◌/◌, ◌%◌, ◌<◌, ◌≤◌, sym, ap, ◌∙◌, arith}
use Rattle.std.specs.Prelude.{ℤ, pos, negsuc, ◌+ℤ◌, ◌-ℤ◌, ◌*ℤ◌, ◌<ℤ◌}
use Rattle.std.proofs.lemmas.Int.{ints}
use Rattle.std.proofs.Math.IntN.{negsuc-*ℤ-pos, pos-*ℤ-pos}
use Rattle.std.proofs.Math.Nat.{div-add-mod, mul-le-mul_right}
use Rattle.cap_codec.specs.Integers.{IsCongruent}

pub IsCongruent-sym : {m : ℕ} {x y : ℤ} → IsCongruent m x y → IsCongruent m y x
IsCongruent-sym c = record { i = c.j; j = c.i; same = sym c.same }

pub IsCongruent-trans : {m : ℕ} {x y z : ℤ} → IsCongruent m x y → IsCongruent m y z → IsCongruent m x z
IsCongruent-trans c d = record { i = c.i + d.i; j = d.j + c.j; same = omega (arith, ints, c.same, d.same) }

-- Natural numbers with one remainder are congruent, also once a multiple is taken from the second.
pub congruent_shifted : (m o a b : ℕ) → a % m ≡ b % m → IsCongruent m (pos a) (pos b -ℤ pos (o * m))
congruent_shifted m o a b e =
    let da = div-add-mod a m in
    let db = div-add-mod b m in
    record { i = b / m; j = a / m + o; same = omega (arith, ints) }

-- Congruent integers less than m apart are equal.
pub near_integers : {m : ℕ} {x y : ℤ} → IsCongruent m x y → x <ℤ (y +ℤ pos m) → y <ℤ (x +ℤ pos m) → x ≡ y
near_integers {m} c p q =
    let below : c.i < c.j → ⊥ = λ h. let k : (c.i + 1) * m ≤ c.j * m = mul-le-mul_right m (omega arith) in omega (arith, ints, c.same) in
    let above : c.j < c.i → ⊥ = λ h. let k : (c.j + 1) * m ≤ c.i * m = mul-le-mul_right m (omega arith) in omega (arith, ints, c.same) in
    let multiples : c.i ≡ c.j = omega arith in
    let equal : c.i * m ≡ c.j * m = ap (λ n. n * m) multiples in
    omega (arith, ints, c.same)

-- ---- multiples

-- An integer as a difference of numbers.
pub difference : (x : ℤ) → (a : ℕ) × (b : ℕ) × (x ≡ pos a -ℤ pos b)
difference (pos n) = (n, 0, omega (arith, ints))
difference (negsuc n) = (0, suc n, omega (arith, ints))

-- A multiple of a difference.
pub multiple_is : (x : ℤ) (a b m : ℕ) → x ≡ pos a -ℤ pos b → x *ℤ pos m ≡ pos (a * m) -ℤ pos (b * m)
multiple_is (pos n) a b m e =
    let s : n + b ≡ a = omega (arith, ints) in
    let t : (n + b) * m ≡ a * m = ap (λ k. k * m) s in
    pos-*ℤ-pos n m ∙ omega (arith, ints)
multiple_is (negsuc n) a b m e =
    let s : suc n + a ≡ b = omega (arith, ints) in
    let t : (suc n + a) * m ≡ b * m = ap (λ k. k * m) s in
    negsuc-*ℤ-pos n m ∙ omega (arith, ints)

-- Integers with one multiple are equal.
pub multiple_cancel : (x y : ℤ) (m : ℕ) → 0 < m → x *ℤ pos m ≡ y *ℤ pos m → x ≡ y
multiple_cancel x y m h e =
    let p = difference x in
    let q = difference y in
    let a = p.0 in
    let b = p.1 in
    let c = q.0 in
    let d = q.1 in
    let x_is = multiple_is x a b m p.2 in
    let y_is = multiple_is y c d m q.2 in
    let sums : (a + d) * m ≡ (c + b) * m = omega (arith, ints) in
    let below : a + d < c + b → ⊥ = λ l. let k : (a + d + 1) * m ≤ (c + b) * m = mul-le-mul_right m (omega arith) in omega arith in
    let above : c + b < a + d → ⊥ = λ l. let k : (c + b + 1) * m ≤ (a + d) * m = mul-le-mul_right m (omega arith) in omega arith in
    let same : a + d ≡ c + b = omega arith in
    omega (arith, ints, p.2, q.2)
