-- The corrections of the address's upper bits lead to the places of base and top.
use Rattle.std.proofs.Common.{◌≡◌, ℕ, ◌+◌, ◌-◌, ◌*◌, ◌/◌, ◌%◌, ◌^◌, ◌<◌, ◌≤◌, refl, sym, ap, ◌∙◌, arith, subst, ⊎_elim}
use Rattle.std.proofs.Math.Nat.{add-mul-mod_self_left, div-add-mod, div-div-eq-div-mul, mod-lt, mul-div-mul_right, mul-le-mul_right, mul_comm}
use Rattle.std.proofs.lemmas.Bool.{cases_lt}
use Rattle.std.proofs.lemmas.Nat.{pow-add, pow_pos}
use Rattle.cap_codec.specs.declared.word.Fields.{Fields}
use Rattle.cap_codec.specs.Bounds.{origin, place_in, window_size, window_mark, window_start}
use Rattle.cap_codec.specs.Mantissas.{base_mantissa, exponent_of}
use Rattle.cap_codec.proofs.BoundsLaws.{IsWindowAt-window_start}
use Rattle.cap_codec.proofs.CountedBounds.{IsWindowAt, IsWindowAt-unique}
use Rattle.cap_codec.proofs.PlaceLaws.{near_congruent, place_in-congruent, place_in-lt}
use Rattle.cap_codec.proofs.WindowSizes.{exponent_of-le, origin_is, window_size-le, window_size-pos}

-- h is 1 where x is below y, else 0.
pub record IsBelow (x y h : ℕ) : Type 0 where
  pub below : x < y → h ≡ 1
  pub above : y ≤ x → h ≡ 0

-- With v an eighth of a window and o windows below address a: the start of the window that holds a, and that
-- starts at an eighth k, is the eighth k of the window that a lies in by its upper bits, or of the one before.
start-plain : (o v k a h : ℕ) → 0 < v → k < 8 → 0 < o → IsBelow (a / v % 8) k h
    → (n : ℕ) × (n + h * (8 * v) ≡ o * (8 * v) + a / v / 8 * (8 * v) + k * v) × (n ≤ o * (8 * v) + a) × (o * (8 * v) + a < n + 8 * v)
start-plain o v k a h pv k8 po b =
    let q = a / v in
    let d : v * q + a % v ≡ a = div-add-mod a v in
    let r : a % v < v = mod-lt a pv in
    let e : 8 * (q / 8) + q % 8 ≡ q = div-add-mod q 8 in
    let s : v * (8 * (q / 8) + q % 8) ≡ v * q = ap (λ x. v * x) e in
    let seven : q % 8 * v ≤ 7 * v = mul-le-mul_right v (omega arith) in
    let seven_k : k * v ≤ 7 * v = mul-le-mul_right v (omega arith) in
    let one : 1 * v ≤ o * v = mul-le-mul_right v po in
    ⊎_elim
    (λ lt. let h1 : h ≡ 1 = b.below lt in
    let hv : h * (8 * v) ≡ 1 * (8 * v) = ap (λ x. x * (8 * v)) h1 in
    let up : (q % 8 + 1) * v ≤ k * v = mul-le-mul_right v (omega arith) in
    (o * (8 * v) + q / 8 * (8 * v) + k * v - 8 * v, omega arith, omega arith, omega arith))
    (λ ge. let h0 : h ≡ 0 = b.above ge in
    let hv : h * (8 * v) ≡ 0 * (8 * v) = ap (λ x. x * (8 * v)) h0 in
    let up : k * v ≤ q % 8 * v = mul-le-mul_right v ge in
    (o * (8 * v) + q / 8 * (8 * v) + k * v, omega arith, omega arith, omega arith))
    (cases_lt (q % 8) k)

-- The window's start, from the address's own multiple of the window.
pub start-is : (f : Fields) (h : ℕ) → IsBelow (f.address / 2 ^ (exponent_of f + 11) % 8) ((base_mantissa f / 2 ^ 11 + 7) % 8) h
    → window_start f + h * window_size f ≡ origin + f.address / window_size f * window_size f + window_mark f
start-is f h b =
    let e = exponent_of f in
    let v = 2 ^ (e + 11) in
    let k = (base_mantissa f / 2 ^ 11 + 7) % 8 in
    let o = 2 ^ (52 - e) in
    let po : 0 < o = pow_pos (52 - e) in
    let oe : origin ≡ o * 2 ^ (e + 14) = origin_is e (exponent_of-le f) in
    let m_v : 2 ^ (e + 14) ≡ 8 * v = omega (arith, pow-add 2 e 11, pow-add 2 e 14) in
    let oe' : origin ≡ o * (8 * v) = oe ∙ ap (λ x. o * x) m_v in
    let pv : 0 < v = pow_pos (e + 11) in
    let p = start-plain o v k f.address h pv (omega arith) po b in
    let n = p.0 in
    let quotient : f.address / 2 ^ (e + 14) ≡ f.address / v / 8 = ap (λ x. f.address / x) (m_v ∙ mul_comm 8 v) ∙ sym (div-div-eq-div-mul f.address v 8) in
    let own : f.address / 2 ^ (e + 14) * 2 ^ (e + 14) ≡ f.address / v / 8 * (8 * v) = ap (λ x. x * 2 ^ (e + 14)) quotient ∙ ap (λ x. f.address / v / 8 * x) m_v in
    let turned : h * 2 ^ (e + 14) ≡ h * (8 * v) = ap (λ x. h * x) m_v in
    let sum : n + h * 2 ^ (e + 14) ≡ origin + f.address / 2 ^ (e + 14) * 2 ^ (e + 14) + k * v = omega (arith, p.1, own, turned, oe') in
    let q = f.address / 2 ^ (e + 14) in
    let whole : (n + 2 ^ (e + 14) * h) % 2 ^ (e + 14) ≡ (k * v + 2 ^ (e + 14) * (o + q)) % 2 ^ (e + 14) =
    ap (λ x. x % 2 ^ (e + 14)) (omega (arith, sum, oe)) in
    let left : (n + 2 ^ (e + 14) * h) % 2 ^ (e + 14) ≡ n % 2 ^ (e + 14) = add-mul-mod_self_left n (2 ^ (e + 14)) h in
    let right : (k * v + 2 ^ (e + 14) * (o + q)) % 2 ^ (e + 14) ≡ k * v % 2 ^ (e + 14) = add-mul-mod_self_left (k * v) (2 ^ (e + 14)) (o + q) in
    let congruent : n % 2 ^ (e + 14) ≡ k * v % 2 ^ (e + 14) = cc in
    let window : IsWindowAt f n = record { holds = omega (arith, p.2, oe'); ends = omega (arith, p.3, oe', m_v); congruent = congruent } in
    let same : window_start f ≡ n = IsWindowAt-unique (IsWindowAt-window_start f) window in
    ap (λ x. x + h * 2 ^ (e + 14)) same ∙ sum

-- A number c below a window, from a start at the eighth k: in the window of the mark itself, or one window on.
place-plain : (v k j c low x : ℕ) → k < 8 → c < 8 * v → IsBelow (c / v) k j → 0 < v → low ≡ x + k * v
    → (n : ℕ) × (n ≡ x + j * (8 * v) + c) × (low ≤ n) × (n < low + 8 * v)
place-plain v k j c low x k8 small b pv e =
    let q = c / v in
    let d : v * q + c % v ≡ c = div-add-mod c v in
    let r : c % v < v = mod-lt c pv in
    let seven : k * v ≤ 7 * v = mul-le-mul_right v (omega arith) in
    ⊎_elim
    (λ lt. let hv : j * (8 * v) ≡ 1 * (8 * v) = ap (λ x. x * (8 * v)) (b.below lt) in
    let up : (q + 1) * v ≤ k * v = mul-le-mul_right v (omega arith) in
    (x + j * (8 * v) + c, refl, omega arith, omega arith))
    (λ ge. let hv : j * (8 * v) ≡ 0 * (8 * v) = ap (λ x. x * (8 * v)) (b.above ge) in
    let up : k * v ≤ q * v = mul-le-mul_right v ge in
    (x + j * (8 * v) + c, refl, omega arith, omega arith))
    (cases_lt q k)

-- A mantissa's place, from the address's own multiple of the window.
pub place-is : (f : Fields) (h j n : ℕ) → n < 2 ^ 14 → IsBelow (f.address / 2 ^ (exponent_of f + 11) % 8) ((base_mantissa f / 2 ^ 11 + 7) % 8) h
    → IsBelow (n / 2 ^ 11) ((base_mantissa f / 2 ^ 11 + 7) % 8) j
    → place_in (window_start f) (window_size f) (n * 2 ^ exponent_of f) + h * window_size f
    ≡ origin + f.address / window_size f * window_size f + j * window_size f + n * 2 ^ exponent_of f
place-is f h j n small b bj =
    let e = exponent_of f in
    let u = 2 ^ e in
    let v = 2 ^ (e + 11) in
    let m = window_size f in
    let k = (base_mantissa f / 2 ^ 11 + 7) % 8 in
    let low = window_start f in
    let pu : 0 < u = pow_pos e in
    let pv : 0 < v = pow_pos (e + 11) in
    let v_u : v ≡ u * 2 ^ 11 = pow-add 2 e 11 in
    let m_v : m ≡ 8 * v = omega (arith, pow-add 2 e 11, pow-add 2 e 14) in
    let s = start-is f h b in
    let quotient : n * u / v ≡ n / 2 ^ 11 = ap (λ x. n * u / x) (v_u ∙ mul_comm u (2 ^ 11)) ∙ mul-div-mul_right n (2 ^ 11) pu in
    let bq : IsBelow (n * u / v) k j = subst (λ x. IsBelow x k j) (sym quotient) bj in
    let room : n * u < 8 * v = let r : (n + 1) * u ≤ 2 ^ 14 * u = mul-le-mul_right u (omega arith) in omega arith in
    let hm : h * m ≡ h * (8 * v) = ap (λ x. h * x) m_v in
    let jm : j * m ≡ j * (8 * v) = ap (λ x. j * x) m_v in
    let own = f.address / m * m in
    let x = origin + own - h * (8 * v) in
    let wide = window_size-le f in
    let taken : h * (8 * v) ≤ origin =
    ⊎_elim (λ lt. let g : h * (8 * v) ≡ 1 * (8 * v) = ap (λ y. y * (8 * v)) (b.below lt) in omega arith)
    (λ ge. let g : h * (8 * v) ≡ 0 * (8 * v) = ap (λ y. y * (8 * v)) (b.above ge) in omega arith) (cases_lt (f.address / v % 8) k) in
    let start : low ≡ x + k * v = omega (arith, s, hm, taken) in
    let p = place-plain v k j (n * u) low x (omega arith) room bq pv start in
    let n' = p.0 in
    let o = 2 ^ (52 - e) in
    let oe : origin ≡ o * 2 ^ (e + 14) = origin_is e (exponent_of-le f) in
    let sum : n' + h * m ≡ origin + own + j * m + n * u = omega (arith, p.1, hm, jm, taken) in
    let whole : (n' + m * h) % m ≡ (n * u + m * (o + f.address / m + j)) % m = ap (λ y. y % m) (omega (arith, sum, oe)) in
    let left : (n' + m * h) % m ≡ n' % m = add-mul-mod_self_left n' m h in
    let right : (n * u + m * (o + f.address / m + j)) % m ≡ n * u % m = add-mul-mod_self_left (n * u) m (o + f.address / m + j) in
    let congruent : n' % m ≡ n * u % m = cc in
    let size = window_size-pos f in
    let after : place_in low m (n * u) < low + m = place_in-lt low m (n * u) size in
    let before : n' < low + m = omega (arith, p.3, m_v) in
    let here : place_in low m (n * u) % m ≡ n * u % m = place_in-congruent low m (n * u) size in
    let alike : place_in low m (n * u) % m ≡ n' % m = cc in
    let same : place_in low m (n * u) ≡ n' = near_congruent m (place_in low m (n * u)) n' alike (omega (arith, p.2)) (omega arith) in
    omega (arith, same, sum)
