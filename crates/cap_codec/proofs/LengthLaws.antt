-- A word holds the representable length exactly, from each multiple of its unit on.
use Rattle.std.proofs.Common.{◌≡◌, ℕ, ◌+◌, ◌-◌, ◌*◌, ◌/◌, ◌%◌, ◌^◌, ◌<◌, ◌≤◌, true, false, refl, sym, ap, ◌∙◌, ⊎_elim, arith}
use Rattle.std.proofs.Math.Nat.{add-mod, div-add-mod', mul-mod_left, zero-mod}
use Rattle.std.proofs.Math.Pow.{mod-mod-pow}
use Rattle.std.proofs.lemmas.Bool.{cases_Bool, cases_lt}
use Rattle.std.proofs.lemmas.Bool.Decides.{nat_tests}
use Rattle.std.proofs.lemmas.Nat.{pow-add}
use Rattle.cap_codec.specs.declared.word.Bounds.{Bounds}
use Rattle.cap_codec.specs.Laws.{le-round_up}
use Rattle.cap_codec.specs.Rounding.{Fits, exponent_for, is_short, length_for, outward_bounds, outward_base, outward_top, round_down, round_up, unit_for}
use Rattle.cap_codec.proofs.BoundsLaws.{same_bounds}
use Rattle.cap_codec.proofs.RoundingLaws.{IsExponent-exponent_for, round_down-le, round_up-least}

-- A multiple of a coarser unit is one of a finer: it rounds to itself.
finer : (k j n : ℕ) → k ≤ j → n % 2 ^ j ≡ 0 → n % 2 ^ k ≡ 0
finer k j n h z =
    let s : j - k + k ≡ j = omega arith in
    let z' : n % 2 ^ (j - k + k) ≡ 0 = ap (λ x. n % 2 ^ x) s ∙ z in
    sym (mod-mod-pow n (j - k) k) ∙ ap (λ x. x % 2 ^ k) z' ∙ zero-mod (2 ^ k)

round_down-same : (k j n : ℕ) → k ≤ j → n % 2 ^ j ≡ 0 → round_down k n ≡ n
round_down-same k j n h z = let y = finer k j n h z in omega (arith, div-add-mod' n (2 ^ k))

round_up-same : (k j n : ℕ) → k ≤ j → n % 2 ^ j ≡ 0 → round_up k n ≡ n
round_up-same k j n h z =
    let d = round_down-same k j n h z in
    let l : round_up k n ≤ n / 2 ^ k * 2 ^ k = round_up-least k n (n / 2 ^ k) (omega (arith, d)) in
    omega (arith, d, le-round_up k n)

-- Bounds that are multiples of a unit for which they are short enough stay as they are.
pub outward-aligned : (base l e : ℕ) → base % 2 ^ (e + 3) ≡ 0 → l % 2 ^ (e + 3) ≡ 0 → l < 2 ^ (e + 13) → base + l ≤ 2 ^ 64
    → outward_bounds base (base + l) ≡ record { base = base; top = base + l }
outward-aligned base l e zb zl short room =
    let unit = 2 ^ (e + 3) in
    let sum : (base + l) % 2 ^ (e + 3) ≡ 0 = add-mod base l unit ∙ (ap (λ x. (x + l % unit) % unit) zb ∙ (ap (λ x. (0 + x) % unit) zl ∙ zero-mod unit)) in
    let order : base ≤ base + l = omega arith in
    let fits : Fits base (base + l) e = omega (arith, round_up-same (e + 3) (e + 3) (base + l) (omega arith) sum, round_down-same (e + 3) (e + 3) base (omega arith) zb) in
    let d = exponent_for base (base + l) in
    let x = IsExponent-exponent_for base (base + l) order room in
    let least : d ≤ e = x.least e fits in
    let down : round_down (d + 3) base ≡ base = round_down-same (d + 3) (e + 3) base (omega (arith, least)) zb in
    let up : round_up (d + 3) (base + l) ≡ base + l = round_up-same (d + 3) (e + 3) (base + l) (omega (arith, least)) sum in
    let low : outward_base base (base + l) ≡ base = ⊎_elim (λ t. rw t refl) (λ f. rw f down) (cases_Bool (is_short base (base + l))) in
    let high : outward_top base (base + l) ≡ base + l = ⊎_elim (λ t. rw t refl) (λ f. rw f up) (cases_Bool (is_short base (base + l))) in
    same_bounds (outward_bounds base (base + l)) (record { base = base; top = base + l }) low high

pub outward-short : (base l : ℕ) → l < 2 ^ 12 → outward_bounds base (base + l) ≡ record { base = base; top = base + l }
outward-short base l h = let short : is_short base (base + l) ≡ true = grind (arith, nat_tests) in rw short refl

-- ---- the representable length and its unit

pub length_for-short : (n : ℕ) → n < 2 ^ 12 → length_for n ≡ n
unfolding length_for
length_for-short n h = let short : is_short 0 n ≡ true = grind (arith, nat_tests) in rw short refl

pub length_for-long : (n : ℕ) → 2 ^ 12 ≤ n → length_for n ≡ round_up (exponent_for 0 n + 3) n
unfolding length_for
length_for-long n h = let long : is_short 0 n ≡ false = grind (arith, nat_tests) in rw long refl

pub unit_for-short : (n : ℕ) → n < 2 ^ 12 → unit_for n ≡ 1
unfolding unit_for
unit_for-short n h = let short : is_short 0 n ≡ true = grind (arith, nat_tests) in rw short refl

pub unit_for-long : (n : ℕ) → 2 ^ 12 ≤ n → unit_for n ≡ 2 ^ (exponent_for 0 n + 3)
unfolding unit_for
unit_for-long n h = let long : is_short 0 n ≡ false = grind (arith, nat_tests) in rw long refl

pub outward-length_for : (n base : ℕ) → n < 2 ^ 64 → base % unit_for n ≡ 0 → base + length_for n ≤ 2 ^ 64
    → outward_bounds base (base + length_for n) ≡ record { base = base; top = base + length_for n }
outward-length_for n base h a r =
    ⊎_elim
    (λ short. rw (length_for-short n short) (outward-short base n short))
    (λ long.
    let e = exponent_for 0 n in
    let length_is = length_for-long n long in
    let aligned : base % 2 ^ (e + 3) ≡ 0 = sym (ap (λ u. base % u) (unit_for-long n long)) ∙ a in
    let room : base + round_up (e + 3) n ≤ 2 ^ 64 = omega (arith, length_is) in
    let x = IsExponent-exponent_for 0 n (omega arith) (omega arith) in
    let start : round_down (e + 3) 0 ≡ 0 = omega (arith, round_down-le (e + 3) 0) in
    let enough : round_up (e + 3) n < 2 ^ (e + 13) = omega (arith, x.fits) in
    let multiple : round_up (e + 3) n % 2 ^ (e + 3) ≡ 0 = mul-mod_left ((n + (2 ^ (e + 3) - 1)) / 2 ^ (e + 3)) (2 ^ (e + 3)) in
    rw length_is (outward-aligned base (round_up (e + 3) n) e aligned multiple enough room))
    (cases_lt n (2 ^ 12))

-- A unit for an exponent is a multiple of one for a lesser exponent.
unit-splits : (d e j : ℕ) → e ≤ d → j * 2 ^ (d + 3) ≡ j * 2 ^ (d - e) * 2 ^ (e + 3)
unit-splits d e j h =
    let s : d + 3 ≡ d - e + (e + 3) = omega arith in
    let p : 2 ^ (d + 3) ≡ 2 ^ (d - e) * 2 ^ (e + 3) = ap (λ k. 2 ^ k) s ∙ pow-add 2 (d - e) (e + 3) in
    let q : j * 2 ^ (d + 3) ≡ j * (2 ^ (d - e) * 2 ^ (e + 3)) = ap (λ u. j * u) p in
    omega arith

-- No length from n on that is held from address 0 is less.
pub length_for-least : (n m : ℕ) → n ≤ m → m ≤ 2 ^ 64 → outward_bounds 0 m ≡ record { base = 0; top = m } → length_for n ≤ m
length_for-least n m h room held =
    ⊎_elim
    (λ short. rw (length_for-short n short) h)
    (λ long.
    let e = exponent_for 0 n in
    let d = exponent_for 0 m in
    let not_short : is_short 0 m ≡ false = grind (arith, nat_tests) in
    let held_top : outward_top 0 m ≡ m = ap (λ (b : Bounds). b.top) held in
    let same : round_up (d + 3) m ≡ m = rw not_short at held_top in
    let x = IsExponent-exponent_for 0 n (omega arith) (omega arith) in
    let y = IsExponent-exponent_for 0 m (omega arith) room in
    let start : round_down (d + 3) 0 ≡ 0 = omega (arith, round_down-le (d + 3) 0) in
    let j = (m + (2 ^ (d + 3) - 1)) / 2 ^ (d + 3) in
    let below : round_up (d + 3) n ≤ m = omega (arith, round_up-least (d + 3) n j (omega arith)) in
    let fits : Fits 0 n d = omega (arith, y.fits) in
    let split = unit-splits d e j (x.least d fits) in
    let enough : n ≤ j * 2 ^ (d - e) * 2 ^ (e + 3) = omega arith in
    let least : round_up (e + 3) n ≤ m = omega (arith, round_up-least (e + 3) n (j * 2 ^ (d - e)) enough) in
    rw (length_for-long n long) least)
    (cases_lt n (2 ^ 12))
