-- Exact bounds are those that some word decodes to.
use Rattle.std.proofs.Common.{◌≡◌, ℕ, ◌+◌, ◌-◌, ◌*◌, ◌/◌, ◌%◌, ◌^◌, ◌<◌, ◌≤◌, ◌↔◌, false, refl, sym, ap, ◌∙◌, subst, arith, ⊎_elim}
use Rattle.std.proofs.Math.Nat.{div-add-mod', mul-le-mul_right, mul-mod_left, pow-le-pow_right}
use Rattle.std.proofs.Math.Pow.{mod-mod-pow}
use Rattle.std.proofs.lemmas.Bool.{cases_lt}
use Rattle.std.proofs.lemmas.Nat.{pow-add, pow_pos}
use Rattle.cap_codec.specs.declared.word.Bounds.{Bounds}
use Rattle.cap_codec.specs.declared.word.Fields.{Fields}
use Rattle.cap_codec.specs.declared.word.Word.{Word}
use Rattle.cap_codec.specs.Bounds.{base_place, bounds_of, top_from, top_place}
use Rattle.cap_codec.specs.Fields.{IsValid, bits_with, fields_of}
use Rattle.cap_codec.specs.Mantissas.{exponent_of}
use Rattle.cap_codec.specs.Rounding.{IsDecoded, IsExact, with_bounds_of}
use Rattle.cap_codec.proofs.BoundsLaws.{IsTopAt-corrected}
use Rattle.cap_codec.proofs.CountedBounds.{IsTopAt}
use Rattle.cap_codec.proofs.EncodeLaws.{IsValid-with_bounds_of, bounds_of-with_bounds_of}
use Rattle.cap_codec.proofs.FieldLaws.{IsValid-fields_of, bits_with-lt, fields_of-bits_with}
use Rattle.cap_codec.proofs.LengthLaws.{outward-aligned, outward-short}
use Rattle.cap_codec.proofs.UnitLaws.{AreUnits-of}
use Rattle.cap_codec.proofs.WindowSizes.{exponent_of-le}
use Rattle.cap_codec.proofs.WordLaws.{IsInRange-bounded}

-- ---- bounds that a word decodes to are exact

-- What is a multiple of 8 units modulo 2 ^ 64 is a multiple of 8 units.
eights-aligned : (x n e : ℕ) → e ≤ 52 → x % 2 ^ 64 ≡ (n * 2 ^ e) % 2 ^ 64 → n % 8 ≡ 0 → x % 2 ^ (e + 3) ≡ 0
eights-aligned x n e h same eight =
    let j = 61 - e in
    let k = e + 3 in
    let s : j + k ≡ 64 = omega arith in
    let finer : (y : ℕ) → y % 2 ^ k ≡ y % 2 ^ 64 % 2 ^ k = λ y. sym (mod-mod-pow y j k) ∙ ap (λ i. y % 2 ^ i % 2 ^ k) s in
    let unit : 2 ^ k ≡ 2 ^ e * 8 = pow-add 2 e 3 in
    let scaled : n / 8 * 2 ^ k ≡ n / 8 * (2 ^ e * 8) = ap (λ u. n / 8 * u) unit in
    let whole : 8 * (n / 8) ≡ n = omega arith in
    let units : 8 * (n / 8) * 2 ^ e ≡ n * 2 ^ e = ap (λ i. i * 2 ^ e) whole in
    let multiple : n * 2 ^ e ≡ n / 8 * 2 ^ k = omega arith in
    finer x ∙ (ap (λ i. i % 2 ^ k) same ∙ (sym (finer (n * 2 ^ e)) ∙ (ap (λ i. i % 2 ^ k) multiple ∙ mul-mod_left (n / 8) (2 ^ k))))

-- The difference of multiples is one.
difference-aligned : (a b g : ℕ) → a % g ≡ 0 → b % g ≡ 0 → (b - a) % g ≡ 0
difference-aligned a b g p q =
    let x = div-add-mod' a g in
    let y = div-add-mod' b g in
    let below : a / g ≤ b / g → b - a ≡ (b / g - a / g) * g = λ h.
    let sum : a / g + (b / g - a / g) ≡ b / g = omega arith in
    let m : (a / g + (b / g - a / g)) * g ≡ b / g * g = ap (λ i. i * g) sum in
    omega arith in
    let above : b / g < a / g → b - a ≡ 0 * g = λ h. let m : b / g * g ≤ a / g * g = mul-le-mul_right g (omega arith) in omega arith in
    ⊎_elim (λ h. ap (λ i. i % g) (above h) ∙ mul-mod_left 0 g) (λ h. ap (λ i. i % g) (below h) ∙ mul-mod_left (b / g - a / g) g) (cases_lt (b / g) (a / g))

IsExact-aligned : (base top e : ℕ) → base ≤ top → top ≤ 2 ^ 64 → base % 2 ^ (e + 3) ≡ 0 → top % 2 ^ (e + 3) ≡ 0 → top - base < 2 ^ (e + 13) → IsExact base top
IsExact-aligned base top e order room p q short =
    let sum : base + (top - base) ≡ top = omega arith in
    subst (λ x. IsExact base x) sum (outward-aligned base (top - base) e p (difference-aligned base top (2 ^ (e + 3)) p q) short (omega arith))

IsExact-short : (base top : ℕ) → base ≤ top → top - base < 2 ^ 12 → IsExact base top
IsExact-short base top order short =
    let sum : base + (top - base) ≡ top = omega arith in
    subst (λ x. IsExact base x) sum (outward-short base (top - base) short)

-- Below the exponent 51 the top is as far above the base as the mantissas say.
top-is : (base top b y : ℕ) → base ≡ b % 2 ^ 64 → base ≤ top → top ≤ 2 ^ 64 → top % 2 ^ 64 ≡ (b + y) % 2 ^ 64 → y < 2 ^ 63
    → (top / 2 ^ 63 + 4 - base / 2 ^ 63) % 4 ≤ 1 → top ≡ base + y
top-is base top b y is order room same small near = omega arith

length-is : {e base top : ℕ} (b t : ℕ) → e < 51 → IsTopAt e base (t * 2 ^ e) top → base ≡ (b * 2 ^ e) % 2 ^ 64 → base ≤ top → top ≤ 2 ^ 64 → b ≤ t → t < b + 2 ^ 13
    → top - base ≡ (t - b) * 2 ^ e
length-is {e} {base} {top} b t h p is order room above near =
    let u = 2 ^ e in
    let limit : u ≤ 2 ^ 50 = let m : e ≤ 50 = omega arith in pow-le-pow_right (omega arith) m in
    let some : 0 < u = pow_pos e in
    let y = (t - b) * u in
    let split : b * u + y ≡ t * u = let s : b + (t - b) ≡ t = omega arith in let m : (b + (t - b)) * u ≡ t * u = ap (λ i. i * u) s in omega arith in
    let most : (t - b + 1) * u ≤ 2 ^ 13 * u = mul-le-mul_right u (omega arith) in
    let small : y < 2 ^ 63 = omega arith in
    let same : top % 2 ^ 64 ≡ (b * u + y) % 2 ^ 64 = p.congruent ∙ ap (λ i. i % 2 ^ 64) (sym split) in
    let top_is = top-is base top (b * u) y is order room same small (p.small h) in
    omega arith

-- Multiples of 8 units are exact: they are short enough for the exponent, or the whole address space.
IsExact-eights : {e base top : ℕ} (b t : ℕ) → e ≤ 52 → IsTopAt e base (t * 2 ^ e) top → base ≡ (b * 2 ^ e) % 2 ^ 64 → base ≤ top → top ≤ 2 ^ 64 → b ≤ t → t < b + 2 ^ 13
    → b % 8 ≡ 0 → t % 8 ≡ 0 → IsExact base top
IsExact-eights {e} {base} {top} b t h p is order room above near b_eight t_eight =
    let base_aligned = eights-aligned base b e h (omega (arith, is)) b_eight in
    let top_aligned = eights-aligned top t e h p.congruent t_eight in
    let fits : e < 51 → top - base < 2 ^ (e + 13) = λ l.
    let long = length-is b t l p is order room above near in
    let most : (t - b + 1) * 2 ^ e ≤ 2 ^ 13 * 2 ^ e = mul-le-mul_right (2 ^ e) (omega arith) in
    omega (arith, pow-add 2 e 13, pow_pos e) in
    let wide : 51 ≤ e → top - base < 2 ^ 64 → top - base < 2 ^ (e + 13) = λ l s.
    let m : 64 ≤ e + 13 = omega arith in
    let r : 2 ^ 64 ≤ 2 ^ (e + 13) = pow-le-pow_right (omega arith) m in
    omega arith in
    let whole : 2 ^ 64 ≤ top - base → IsExact base top = λ l. IsExact-aligned base top 52 order room (omega arith) (omega arith) (omega arith) in
    ⊎_elim (λ l. IsExact-aligned base top e order room base_aligned top_aligned (fits l))
    (λ l. ⊎_elim (λ s. IsExact-aligned base top e order room base_aligned top_aligned (wide l s)) whole (cases_lt (top - base) (2 ^ 64))) (cases_lt e 51)

IsExact-decoded : (f : Fields) (base top : ℕ) → IsValid f → base ≤ top → top ≤ 2 ^ 64 → bounds_of f ≡ record { base = base; top = top } → IsExact base top
unfolding bounds_of
IsExact-decoded f base top v order room h =
    let e = exponent_of f in
    let units = AreUnits-of f v in
    let b = units.0 in
    let t = units.1 in
    let are = units.2 in
    let base_here : base_place f % 2 ^ 64 ≡ base = ap (λ (r : Bounds). r.base) h in
    let top_here : top_from e (base_place f % 2 ^ 64) (top_place f % 2 ^ 65) ≡ top = ap (λ (r : Bounds). r.top) h in
    let small : base_place f % 2 ^ 64 < 2 ^ 64 = omega arith in
    let placed : IsTopAt e (base_place f % 2 ^ 64) (top_place f) (top_from e (base_place f % 2 ^ 64) (top_place f % 2 ^ 65)) =
    IsTopAt-corrected e (base_place f % 2 ^ 64) (top_place f) small in
    let p : IsTopAt e base (t * 2 ^ e) top =
    subst (λ x. IsTopAt e base x top) are.top (subst (λ x. IsTopAt e x (top_place f) top) base_here (subst (λ x. IsTopAt e (base_place f % 2 ^ 64) (top_place f) x) top_here placed)) in
    let is : base ≡ (b * 2 ^ e) % 2 ^ 64 = sym base_here ∙ ap (λ i. i % 2 ^ 64) are.base in
    ⊎_elim
    (λ s. let one : 2 ^ e ≡ 1 = ap (λ i. 2 ^ i) s.0 in
    let long = length-is b t (omega (arith, s.0)) p is order room are.order are.near in
    let times : (t - b) * 2 ^ e ≡ (t - b) * 1 = ap (λ i. (t - b) * i) one in
    IsExact-short base top order (omega (arith, s.1)))
    (λ s. IsExact-eights b t (exponent_of-le f) p is order room are.order are.near s.0 s.1)
    are.form

-- ---- some word decodes to exact bounds

IsDecoded-exact : (base top : ℕ) → base < 2 ^ 64 → base ≤ top → top ≤ 2 ^ 64 → IsExact base top → IsDecoded base top
IsDecoded-exact base top small order room exact =
    let f : Fields = record { perms = 0; reserved = 0; flag = false; otype = 0; internal = false; top12 = 0; base14 = 0; address = 0 } in
    let g = with_bounds_of f base top in
    let f_valid : IsValid f = record { reserved = omega arith; otype = omega arith; top12 = omega arith; base14 = omega arith } in
    let valid = IsValid-with_bounds_of f base top f_valid in
    let range = IsInRange-bounded f base top (omega arith) small in
    let w : Word = record { bits = bits_with g } in
    let fields_are : fields_of w ≡ g = fields_of-bits_with g w valid range refl in
    record { word = w; fits = bits_with-lt g valid range; has = ap bounds_of fields_are ∙ (bounds_of-with_bounds_of f base top order room small ∙ exact) }

-- ---- both ways

pub IsExact-is_decoded : (base top : ℕ) → base < 2 ^ 64 → base ≤ top → top ≤ 2 ^ 64 → IsExact base top ↔ IsDecoded base top
IsExact-is_decoded base top small order room = (
  λ exact. IsDecoded-exact base top small order room exact,
  λ d. IsExact-decoded (fields_of d.word) base top (IsValid-fields_of d.word) order room d.has,
)
