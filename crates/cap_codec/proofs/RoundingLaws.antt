-- Rounding.
use Rattle.std.proofs.Common.{◌≡◌, ℕ, zero, suc, ◌+◌, ◌-◌, ◌*◌, add-zero, ◌/◌, ◌^◌, ◌<◌, ◌≤◌, Bool, true, false, sym, ap, ◌∙◌, ⊎_elim, arith, nat_lt}
use Rattle.std.proofs.Math.Nat.{div-add-mod', mod-lt, mul-le-mul_right}
use Rattle.std.proofs.lemmas.Bool.{cases_Bool}
use Rattle.std.proofs.lemmas.Bool.Decides.{nat_tests}
use Rattle.std.proofs.lemmas.Nat.{div_below, le-div, pow-add, pow_pos}
use Rattle.cap_codec.specs.Laws.{le-round_up}
use Rattle.cap_codec.specs.Rounding.{Fits, IsExponent, IsNearExponent, exponent_for, first_from, round_down, round_up, rounded_length}

pub round_down-le : (k n : ℕ) → round_down k n ≤ n
round_down-le k n = omega (arith, div-add-mod' n (2 ^ k))

pub round_down-near : (k n : ℕ) → n < round_down k n + 2 ^ k
round_down-near k n = omega (arith, div-add-mod' n (2 ^ k), mod-lt n (pow_pos k))

pub round_up-near : (k n : ℕ) → round_up k n < n + 2 ^ k
round_up-near k n = let p = pow_pos k in omega (arith, div-add-mod' (n + (2 ^ k - 1)) (2 ^ k))

-- A multiple of the unit at or above n is at or above n rounded up.
pub round_up-least : (k n j : ℕ) → n ≤ j * 2 ^ k → round_up k n ≤ j * 2 ^ k
round_up-least k n j h =
    let p = pow_pos k in
    let near = round_up-near k n in
    let room : n + (2 ^ k - 1) < (j + 1) * 2 ^ k = omega arith in
    let q : (n + (2 ^ k - 1)) / 2 ^ k ≤ j = omega (arith, div_below (n + (2 ^ k - 1)) (2 ^ k) (j + 1) p room) in
    mul-le-mul_right (2 ^ k) q

-- A multiple of the unit at or below n is at or below n rounded down.
pub round_down-most : (k n j : ℕ) → j * 2 ^ k ≤ n → j * 2 ^ k ≤ round_down k n
round_down-most k n j h = mul-le-mul_right (2 ^ k) (le-div j n (2 ^ k) (pow_pos k) h)

-- ---- the least exponent

pub first_from-most : (p : ℕ → Bool) (from more : ℕ) → first_from p from more ≤ from + more
unfolding first_from
first_from-most p from zero = omega arith
first_from-most p from (suc more) = let h = first_from-most p (suc from) more in grind arith

later : (p : ℕ → Bool) (from k : ℕ) → from ≤ k → p k ≡ true → p from ≡ false → from < k
later p from k h e f =
    let apart : from ≡ k → ⊥ = λ q. let same : p from ≡ p k = ap p q in cc in
    omega arith

pub first_from-least : (p : ℕ → Bool) (from more k : ℕ) → from ≤ k → p k ≡ true → first_from p from more ≤ k
unfolding first_from
first_from-least p from zero k h e = h
first_from-least p from (suc more) k h e =
    let passed : p from ≡ true → first_from p from (suc more) ≤ k = λ t. rw t h in
    let moved : p from ≡ false → first_from p from (suc more) ≤ k =
    λ f. let below : from < k = later p from k h e f in let rest = first_from-least p (suc from) more k (omega arith) e in rw f rest in
    ⊎_elim passed moved (cases_Bool (p from))

pub first_from-passes : (p : ℕ → Bool) (from more : ℕ) → p (from + more) ≡ true → p (first_from p from more) ≡ true
unfolding first_from
first_from-passes p from zero e = rw add-zero at e
first_from-passes p from (suc more) e =
    let rest = first_from-passes p (suc from) more in
    let there : p (suc from + more) ≡ true = let same : from + suc more ≡ suc from + more = omega arith in rw same at e in
    ⊎_elim (λ t. rw t t) (λ f. rw f (rest there)) (cases_Bool (p from))

pub fits_at_52 : (base top : ℕ) → base ≤ top → top ≤ 2 ^ 64 → Fits base top 52
fits_at_52 base top h l = omega (arith, round_up-least 55 top (2 ^ 9) l)

pub IsExponent-exponent_for : (base top : ℕ) → base ≤ top → top ≤ 2 ^ 64 → IsExponent base top (exponent_for base top)
unfolding exponent_for
IsExponent-exponent_for base top h l =
    let test : ℕ → Bool = λ e. nat_lt (rounded_length base top e) (2 ^ (e + 13)) in
    let at_52 : test 52 ≡ true = grind (arith, nat_tests, fits_at_52 base top h l) in
    let passes = first_from-passes test 0 52 at_52 in
    record {
      fits = grind (arith, nat_tests);
      least = λ k f. first_from-least test 0 52 k (omega arith) (grind (arith, nat_tests));
    }

pub exponent_for-le : (base top : ℕ) → exponent_for base top ≤ 52
unfolding exponent_for
exponent_for-le base top = first_from-most (λ e. nat_lt (rounded_length base top e) (2 ^ (e + 13))) 0 52

pub IsExponent-unique : (base top d e : ℕ) → IsExponent base top d → IsExponent base top e → d ≡ e
IsExponent-unique base top d e p q = omega (arith, p.least e q.fits, q.least d p.fits)

pub exponent_for-is : (base top e : ℕ) → base ≤ top → top ≤ 2 ^ 64 → Fits base top e → ((k : ℕ) → k < e → Fits base top k → ⊥) → e ≡ exponent_for base top
exponent_for-is base top e order room fits none =
    let x : IsExponent base top e = record { fits = fits; least = λ k f. let no : k < e → ⊥ = λ l. none k l f in omega (arith, no) } in
    IsExponent-unique base top e (exponent_for base top) x (IsExponent-exponent_for base top order room)

-- ---- rounding to coarser units

twice : (k n : ℕ) → n * 2 ^ (suc k + 3) ≡ (n * 2) * 2 ^ (k + 3)
twice k n =
    let s : suc k + 3 ≡ k + 3 + 1 = omega arith in
    let d : 2 ^ (suc k + 3) ≡ 2 ^ (k + 3) * 2 = ap (λ x. 2 ^ x) s ∙ pow-add 2 (k + 3) 1 in
    let m : n * 2 ^ (suc k + 3) ≡ n * (2 ^ (k + 3) * 2) = ap (λ x. n * x) d in
    omega arith

pub round_up-mono : (k n : ℕ) → round_up (k + 3) n ≤ round_up (suc k + 3) n
round_up-mono k n =
    let j = (n + (2 ^ (suc k + 3) - 1)) / 2 ^ (suc k + 3) in
    let d : j * 2 ^ (suc k + 3) ≡ (j * 2) * 2 ^ (k + 3) = twice k j in
    let above : n ≤ (j * 2) * 2 ^ (k + 3) = omega (arith, le-round_up (suc k + 3) n) in
    omega (arith, round_up-least (k + 3) n (j * 2) above)

pub round_down-mono : (k n : ℕ) → round_down (suc k + 3) n ≤ round_down (k + 3) n
round_down-mono k n =
    let j = n / 2 ^ (suc k + 3) in
    let d : j * 2 ^ (suc k + 3) ≡ (j * 2) * 2 ^ (k + 3) = twice k j in
    let below : (j * 2) * 2 ^ (k + 3) ≤ n = omega (arith, round_down-le (suc k + 3) n) in
    omega (arith, round_down-most (k + 3) n (j * 2) below)

-- Rounded up, a top of at most 2 ^ 64 stays so.
pub round_up-whole : (k top : ℕ) → k ≤ 64 → top ≤ 2 ^ 64 → round_up k top ≤ 2 ^ 64
round_up-whole k top h l =
    let s : 64 - k + k ≡ 64 = omega arith in
    let d : 2 ^ 64 ≡ 2 ^ (64 - k) * 2 ^ k = ap (λ x. 2 ^ x) (sym s) ∙ pow-add 2 (64 - k) k in
    let r = round_up-least k top (2 ^ (64 - k)) (omega arith) in
    omega arith

pub round_up-room : (e top : ℕ) → e ≤ 52 → top ≤ 2 ^ 64 → round_up (e + 3) top ≤ 2 ^ 64
round_up-room e top h l = round_up-whole (e + 3) top (omega arith) l

-- ---- how large the least exponent is

-- Bounds that are not short, rounded for the least exponent, are at least half as long as they may be.
pub long_enough : (base top e : ℕ) → IsExponent base top e → base ≤ top → 2 ^ 12 ≤ top - base → 2 ^ (e + 12) ≤ round_up (e + 3) top - round_down (e + 3) base
long_enough base top zero x h l = omega (arith, le-round_up 3 top, round_down-le 3 base)
long_enough base top (suc k) x h l =
    let no : Fits base top k → ⊥ = λ f. let p : suc k ≤ k = x.least k f in omega arith in
    let few : 2 ^ (k + 13) ≤ round_up (k + 3) top - round_down (k + 3) base = omega arith in
    let up : round_up (k + 3) top ≤ round_up (suc k + 3) top = round_up-mono k top in
    let down : round_down (suc k + 3) base ≤ round_down (k + 3) base = round_down-mono k base in
    let same : suc k + 12 ≡ k + 13 = omega arith in
    rw same (omega arith)

-- The least exponent is the place of the length's highest bit less 12, or one more.
exponent-most : (base top e : ℕ) → Fits base top e → base ≤ top → top - base < 2 ^ (e + 13)
exponent-most base top e fits h = omega (arith, fits, le-round_up (e + 3) top, round_down-le (e + 3) base)

exponent-least : (base top e : ℕ) → IsExponent base top e → base ≤ top → 2 ^ 12 ≤ top - base → 2 ^ (e + 11) ≤ top - base
exponent-least base top zero x h l = omega arith
exponent-least base top (suc k) x h l =
    let no : Fits base top k → ⊥ = λ f. let p : suc k ≤ k = x.least k f in omega arith in
    let many : 2 ^ (k + 13) ≤ rounded_length base top k = omega arith in
    let unit : 2 ^ (k + 3) ≡ 2 ^ k * 8 = pow-add 2 k 3 in
    let whole : 2 ^ (k + 13) ≡ 2 ^ k * 2 ^ 13 = pow-add 2 k 13 in
    let half : 2 ^ (suc k + 11) ≡ 2 ^ k * 2 ^ 12 = let s : suc k + 11 ≡ k + 12 = omega arith in ap (λ x. 2 ^ x) s ∙ pow-add 2 k 12 in
    omega (arith, round_up-near (k + 3) top, round_down-near (k + 3) base)

pub IsNearExponent-from : (base top e : ℕ) → IsExponent base top e → base ≤ top → top ≤ 2 ^ 64 → 2 ^ 12 ≤ top - base → IsNearExponent (top - base) e
IsNearExponent-from base top e x h room l =
    record { least = exponent-least base top e x h l; most = exponent-most base top e x.fits h; limit = x.least 52 (fits_at_52 base top h room) }
