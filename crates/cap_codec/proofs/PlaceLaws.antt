-- The one number of a window that is congruent to a number.
use Rattle.std.proofs.Common.{◌≡◌, ℕ, ◌+◌, ◌-◌, ◌*◌, ◌/◌, ◌%◌, ◌<◌, ◌≤◌, ap, ◌∙◌, arith}
use Rattle.std.proofs.Math.Nat.{add-mod-mod, add-mul-mod_self_left, div-add-mod, mod-lt, mul-le-mul_left}
use Rattle.cap_codec.specs.Bounds.{place_in}

pub place_in-congruent : (low size x : ℕ) → 0 < size → place_in low size x % size ≡ x % size
place_in-congruent low size x h =
    let r = mod-lt low h in
    let d = div-add-mod low size in
    let e : low + (x + (size - low % size)) ≡ x + size * (low / size + 1) = omega arith in
    add-mod-mod low (x + (size - low % size)) size ∙ (ap (λ n. n % size) e ∙ add-mul-mod_self_left x size (low / size + 1))

pub place_in-lt : (low size x : ℕ) → 0 < size → place_in low size x < low + size
place_in-lt low size x h = omega (arith, mod-lt (x + (size - low % size)) h)

-- Congruent numbers less than a size apart are equal.
pub near_congruent : (size a b : ℕ) → a % size ≡ b % size → a < b + size → b < a + size → a ≡ b
near_congruent size a b e p q =
    let da = div-add-mod a size in
    let db = div-add-mod b size in
    let below : a / size < b / size → ⊥ = λ h. let k : size * (a / size + 1) ≤ size * (b / size) = mul-le-mul_left size (omega arith) in omega arith in
    let above : b / size < a / size → ⊥ = λ h. let k : size * (b / size + 1) ≤ size * (a / size) = mul-le-mul_left size (omega arith) in omega arith in
    let same : a / size ≡ b / size = omega arith in
    let scaled : size * (a / size) ≡ size * (b / size) = ap (λ n. size * n) same in
    omega arith
