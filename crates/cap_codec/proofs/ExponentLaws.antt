-- The least exponent from the place of the length's highest bit.
use Rattle.std.proofs.Common.{◌≡◌, ℕ, ◌+◌, ◌-◌, ◌*◌, ◌^◌, ◌<◌, ◌≤◌, sym, ap, ◌∙◌, arith, subst, ⊎_elim}
use Rattle.std.proofs.Math.Nat.{pow-le-pow_right}
use Rattle.std.proofs.lemmas.Bool.{cases_lt}
use Rattle.std.proofs.lemmas.Nat.{pow-add}
use Rattle.cap_codec.specs.Laws.{le-round_up}
use Rattle.cap_codec.specs.Rounding.{Fits, exponent_for}
use Rattle.cap_codec.proofs.RoundingLaws.{exponent_for-is, round_down-le, round_down-near, round_up-near}

pow-mono : (a b : ℕ) → a ≤ b → 2 ^ a ≤ 2 ^ b
pow-mono a b h = pow-le-pow_right (omega arith) h

-- The highest bit of the bounds' length is at p.
pub record IsHighest (base top p : ℕ) : Type 0 where
  pub least : 2 ^ p ≤ top - base
  pub most : top - base < 2 * 2 ^ p
  pub from : 12 ≤ p
  pub limit : p ≤ 64

pub IsHighest-of : (base top p : ℕ) → top ≤ 2 ^ 64 → 2 ^ 12 ≤ top - base → 2 ^ p ≤ top - base → top - base < 2 * 2 ^ p → IsHighest base top p
IsHighest-of base top p room long le lt =
    let double = pow-add 2 p 1 in
    let few : p < 12 → ⊥ = λ h. let m = pow-mono (p + 1) 12 (omega (arith, h)) in omega arith in
    let many : 64 < p → ⊥ = λ h. let m = pow-mono 65 p (omega (arith, h)) in omega arith in
    record { least = le; most = lt; from = omega (arith, few); limit = omega (arith, many) }

-- No exponent below the highest bit's fits.
none-before : (base top p k : ℕ) → IsHighest base top p → k + 12 < p → Fits base top k → ⊥
none-before base top p k x h f =
    let m = pow-mono (k + 13) p (omega arith) in
    omega (arith, x.least, le-round_up (k + 3) top, round_down-le (k + 3) base)

-- Short bounds fit at once.
pub short-is : (base top : ℕ) → base ≤ top → top ≤ 2 ^ 64 → top - base < 2 ^ 12 → 0 ≡ exponent_for base top
short-is base top order room short =
    exponent_for-is base top 0 order room (omega (arith, round_up-near 3 top, round_down-near 3 base)) (λ k lt f. absurd (omega arith))

-- The next one fits.
fits-next : (base top q : ℕ) → top - base < 2 * 2 ^ (q + 12) → Fits base top (q + 1)
fits-next base top q lt =
    let a : 2 ^ (q + 12) ≡ 2 ^ q * 2 ^ 12 = pow-add 2 q 12 in
    let b : 2 ^ (q + 1 + 3) ≡ 2 ^ q * 2 ^ 4 = let s : q + 1 + 3 ≡ q + 4 = omega arith in ap (λ x. 2 ^ x) s ∙ pow-add 2 q 4 in
    let c : 2 ^ (q + 1 + 13) ≡ 2 ^ q * 2 ^ 14 = let s : q + 1 + 13 ≡ q + 14 = omega arith in ap (λ x. 2 ^ x) s ∙ pow-add 2 q 14 in
    omega (arith, round_up-near (q + 1 + 3) top, round_down-near (q + 1 + 3) base)

-- Where the highest bit's exponent fits, it is the least.
pub lowest-is : (base top p : ℕ) → base ≤ top → top ≤ 2 ^ 64 → IsHighest base top p → Fits base top (p - 12) → p - 12 ≡ exponent_for base top
lowest-is base top p order room x f =
    exponent_for-is base top (p - 12) order room f (λ k l. none-before base top p k x (omega arith))

-- Where it doesn't, the next one is.
pub raised-is : (base top p : ℕ) → base ≤ top → top ≤ 2 ^ 64 → IsHighest base top p → (Fits base top (p - 12) → ⊥) → p - 12 + 1 ≡ exponent_for base top
raised-is base top p order room x tight =
    let s : p - 12 + 12 ≡ p = omega (arith, x.from) in
    let below : top - base < 2 * 2 ^ (p - 12 + 12) = subst (λ y. top - base < 2 * 2 ^ y) (sym s) x.most in
    exponent_for-is base top (p - 12 + 1) order room (fits-next base top (p - 12) below)
    (λ k l f. ⊎_elim (λ lesser. none-before base top p k x (omega arith) f)
    (λ same. let e : k ≡ p - 12 = omega arith in tight (subst (λ y. Fits base top y) e f)) (cases_lt k (p - 12)))
