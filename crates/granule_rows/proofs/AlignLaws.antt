-- Multiples of a unit, and the first run that starts at one.
use Rattle.std.proofs.Common.{◌≡◌, ◌<◌, ◌≤◌, ◌+◌, ◌-◌, ◌*◌, ◌/◌, ◌%◌, ℕ, inl, inr, List, arith}
use Rattle.std.proofs.Math.Nat.{div-add-mod, mod-eq_of_lt, mod-lt, mod_self, mul-le-mul_left, mul-mod_left, mul_comm}
use Rattle.std.proofs.lemmas.Bool.{cases_lt}
use Rattle.std.specs.Int.{next_multiple_of}
use Rattle.granule_rows.specs.Runs.{IsFirstRun, IsRun, aligned_from}

next_multiple_of_is : (x y : ℕ) → 0 < y → (next_multiple_of x y % y ≡ 0) × (next_multiple_of x y < x + y)
next_multiple_of_is x y some =
    let split = div-add-mod x y in
    let rest = mod-lt x some in
    elim (cases_lt 0 (x % y)) [
      | inl more ↦
          let step : (y - x % y) % y ≡ y - x % y = mod-eq_of_lt (omega arith) in
          let whole : x + (y - x % y) ≡ (x / y + 1) * y = omega (arith, mul_comm y (x / y)) in
          rw (step, whole) (mul-mod_left (x / y + 1) y, omega arith)
      | inr none ↦
          let all : y - x % y ≡ y = omega arith in
          let step : (y - x % y) % y ≡ 0 = rw all (mod_self y) in
          let whole : x + 0 ≡ x / y * y = omega (arith, mul_comm y (x / y)) in
          rw step (rw whole (mul-mod_left (x / y) y), omega arith)
    ]

-- A multiple from x on is none less.
next_multiple_of_least : (x y m : ℕ) → 0 < y → x ≤ m → m % y ≡ 0 → next_multiple_of x y ≤ m
next_multiple_of_least x y m some le multiple =
    let is = next_multiple_of_is x y some in
    let n = next_multiple_of x y in
    let n_is = div-add-mod (next_multiple_of x y) y in
    let m_is = div-add-mod m y in
    elim (cases_lt (m / y) (next_multiple_of x y / y)) [
      | inl less ↦
          let step : y * (m / y + 1) ≤ y * (next_multiple_of x y / y) = mul-le-mul_left y (omega arith) in
          absurd (omega (arith, is.0, is.1))
      | inr more ↦
          let step : y * (next_multiple_of x y / y) ≤ y * (m / y) = mul-le-mul_left y more in
          omega (arith, is.0)
    ]

pub le-aligned_from : (origin unit k : ℕ) → k ≤ aligned_from origin unit k
le-aligned_from origin unit k = omega arith

pub aligned_from-multiple : (origin unit k : ℕ) → 0 < unit → (origin + aligned_from origin unit k) % unit ≡ 0
aligned_from-multiple origin unit k some =
    let same : origin + aligned_from origin unit k ≡ next_multiple_of (origin + k) unit = omega arith in
    rw same (next_multiple_of_is (origin + k) unit some).0

pub aligned_from-least : (origin unit k q : ℕ) → 0 < unit → k ≤ q → (origin + q) % unit ≡ 0 → aligned_from origin unit k ≤ q
aligned_from-least origin unit k q some le multiple =
    omega (arith, next_multiple_of_least (origin + k) unit (origin + q) some (omega arith) multiple)

-- Runs at multiples start at `next` or behind it, where the first run from `from` on starts at `place`.
pub multiples_from : {words : List ℕ} {from n place : ℕ} → (origin unit : ℕ) → 0 < unit → IsFirstRun words from n place
    → ((q : ℕ) → IsRun words q n → (origin + q) % unit ≡ 0 → from ≤ q)
    → (q : ℕ) → IsRun words q n → (origin + q) % unit ≡ 0 → aligned_from origin unit place ≤ q
multiples_from {place = place} origin unit some first before q run multiple =
    aligned_from-least origin unit place q some (first.least q (before q run multiple) run) multiple
