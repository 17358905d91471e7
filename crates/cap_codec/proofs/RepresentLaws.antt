-- Which addresses keep a word's bounds.
use Rattle.std.proofs.Common.{◌≡◌, ℕ, ◌+◌, ◌-◌, ◌*◌, ◌%◌, ◌^◌, ◌<◌, ◌≤◌, sym, ap, ◌∙◌, arith, inl, inr, subst, ⊎_elim, IsTrue, ◌↔◌}
use Rattle.std.proofs.Math.Nat.{mod-lt, pow-le-pow_right}
use Rattle.std.proofs.Math.Pow.{mod-mod-pow}
use Rattle.std.proofs.lemmas.Bool.{cases_lt}
use Rattle.cap_codec.specs.declared.word.Bounds.{Bounds}
use Rattle.cap_codec.specs.declared.word.Fields.{Fields}
use Rattle.cap_codec.specs.Mantissas.{base_mantissa, exponent_of, top_mantissa}
use Rattle.cap_codec.specs.Bounds.{base_place, bounds_of, top_from, origin, place_in, top_place, window_size, window_start}
use Rattle.cap_codec.specs.Representable.{IsInWindow, IsRepresentable, is_representable}
use Rattle.cap_codec.proofs.BoundsLaws.{IsTopAt-corrected, IsWindowAt-window_start, near_unique, same_bounds, same_ends}
use Rattle.cap_codec.proofs.CountedBounds.{IsWindowAt, IsWindowAt-unique}
use Rattle.cap_codec.proofs.WindowLaws.{in_window, near_start, window_offset}

-- The two windows' starts are congruent.
starts-congruent : (f : Fields) (a : ℕ) → window_start (let r : Fields = record f { address = a } in r) % window_size f ≡ window_start f % window_size f
starts-congruent f a =
    (IsWindowAt-window_start (let r : Fields = record f { address = a } in r)).congruent ∙ sym (IsWindowAt-window_start f).congruent

-- A place moves with its window.
place-shift : (m low low' x : ℕ) → low' % m ≡ low % m → place_in low' m x + low ≡ place_in low m x + low'
place-shift m low low' x e =
    let same : (x + (m - low' % m)) % m ≡ (x + (m - low % m)) % m = ap (λ r. (x + (m - r)) % m) e in
    omega arith

-- The top of an exponent below 51 follows from t modulo 2 ^ 64.
top-follows : (e base t t' : ℕ) → e < 51 → base < 2 ^ 64 → t' % 2 ^ 64 ≡ t % 2 ^ 64 → top_from e base (t' % 2 ^ 65) ≡ top_from e base (t % 2 ^ 65)
top-follows e base t t' l h s =
    let p = IsTopAt-corrected e base t' h in
    let q = IsTopAt-corrected e base t h in
    near_unique base _ _ h p.fits q.fits (p.congruent ∙ (s ∙ sym q.congruent)) (p.small l) (q.small l)

shift-64 : (low low' x x' : ℕ) → low' % 2 ^ 64 ≡ low % 2 ^ 64 → x' + low ≡ x + low' → x' % 2 ^ 64 ≡ x % 2 ^ 64
shift-64 low low' x x' s e = omega arith

shift-65 : (low low' x x' : ℕ) → low' % 2 ^ 65 ≡ low % 2 ^ 65 → x' + low ≡ x + low' → x' % 2 ^ 65 ≡ x % 2 ^ 65
shift-65 low low' x x' s e = omega arith

unshift-64 : (low low' x x' : ℕ) → x' % 2 ^ 64 ≡ x % 2 ^ 64 → x' + low ≡ x + low' → low' % 2 ^ 64 ≡ low % 2 ^ 64
unshift-64 low low' x x' s e = omega arith

-- Numbers congruent modulo a power of 2 are so modulo a lesser one.
coarser : (a b j k : ℕ) → a % 2 ^ (j + k) ≡ b % 2 ^ (j + k) → a % 2 ^ k ≡ b % 2 ^ k
coarser a b j k e = sym (mod-mod-pow a j k) ∙ (ap (λ x. x % 2 ^ k) e ∙ mod-mod-pow b j k)

-- Starts that are congruent modulo 2 ^ 64 give one pair of bounds, where the exponent is below 51.
same-below_51 : (f : Fields) (a : ℕ) → exponent_of f < 51 → window_start (let r : Fields = record f { address = a } in r) % 2 ^ 64 ≡ window_start f % 2 ^ 64 → IsRepresentable f a
unfolding bounds_of
same-below_51 f a l s =
    let g : Fields = record f { address = a } in
    let m = window_size f in
    let b = place-shift m (window_start f) (window_start g) (base_mantissa f * 2 ^ exponent_of f) (starts-congruent f a) in
    let t = place-shift m (window_start f) (window_start g) (top_mantissa f * 2 ^ exponent_of f) (starts-congruent f a) in
    let base : base_place g % 2 ^ 64 ≡ base_place f % 2 ^ 64 = shift-64 (window_start f) (window_start g) (base_place f) (base_place g) s b in
    let top : top_place g % 2 ^ 64 ≡ top_place f % 2 ^ 64 = shift-64 (window_start f) (window_start g) (top_place f) (top_place g) s t in
    let small : base_place f % 2 ^ 64 < 2 ^ 64 = omega arith in
    let tops : top_from (exponent_of f) (base_place g % 2 ^ 64) (top_place g % 2 ^ 65) ≡ top_from (exponent_of f) (base_place f % 2 ^ 64) (top_place f % 2 ^ 65) =
    ap (λ x. top_from (exponent_of f) x (top_place g % 2 ^ 65)) base ∙ top-follows (exponent_of f) (base_place f % 2 ^ 64) (top_place f) (top_place g) l small top in
    same_bounds (bounds_of g) (bounds_of f) base tops

-- The two windows' starts are congruent modulo each power of 2 up to the window's size.
coarse-at : (f : Fields) (a k : ℕ) → k ≤ exponent_of f + 14 → window_start (let r : Fields = record f { address = a } in r) % 2 ^ k ≡ window_start f % 2 ^ k
coarse-at f a k h =
    let g : Fields = record f { address = a } in
    let j = exponent_of f + 14 - k in
    let s : j + k ≡ exponent_of f + 14 = omega arith in
    let e : window_start g % 2 ^ (j + k) ≡ window_start f % 2 ^ (j + k) =
    ap (λ n. window_start g % 2 ^ n) s ∙ (starts-congruent f a ∙ ap (λ n. window_start f % 2 ^ n) (sym s)) in
    coarser (window_start g) (window_start f) j k e

same-from_51 : (f : Fields) (a : ℕ) → 51 ≤ exponent_of f → IsRepresentable f a
unfolding bounds_of
same-from_51 f a l =
    let g : Fields = record f { address = a } in
    let m = window_size f in
    let b = place-shift m (window_start f) (window_start g) (base_mantissa f * 2 ^ exponent_of f) (starts-congruent f a) in
    let t = place-shift m (window_start f) (window_start g) (top_mantissa f * 2 ^ exponent_of f) (starts-congruent f a) in
    let h64 : 64 ≤ exponent_of f + 14 = omega arith in
    let h65 : 65 ≤ exponent_of f + 14 = omega arith in
    let base : base_place g % 2 ^ 64 ≡ base_place f % 2 ^ 64 = shift-64 (window_start f) (window_start g) (base_place f) (base_place g) (coarse-at f a 64 h64) b in
    let top : top_place g % 2 ^ 65 ≡ top_place f % 2 ^ 65 = shift-65 (window_start f) (window_start g) (top_place f) (top_place g) (coarse-at f a 65 h65) t in
    let tops : top_from (exponent_of f) (base_place g % 2 ^ 64) (top_place g % 2 ^ 65) ≡ top_from (exponent_of f) (base_place f % 2 ^ 64) (top_place f % 2 ^ 65) =
    ap (λ x. top_from (exponent_of f) x (top_place g % 2 ^ 65)) base ∙ ap (λ x. top_from (exponent_of f) (base_place f % 2 ^ 64) x) top in
    same_bounds (bounds_of g) (bounds_of f) base tops

same-from_50 : (f : Fields) (a : ℕ) → 50 ≤ exponent_of f → IsRepresentable f a
same-from_50 f a l =
    let h64 : 64 ≤ exponent_of f + 14 = omega arith in
    ⊎_elim (λ below. same-below_51 f a below (coarse-at f a 64 h64)) (λ above. same-from_51 f a above) (cases_lt (exponent_of f) 51)

-- Plain facts on an offset modulo 2 ^ 64.
offset-back : (p low : ℕ) → 2 ^ 66 ≤ p → low ≤ p + 2 ^ 64 → (p - (2 ^ 64 + p - low) % 2 ^ 64) % 2 ^ 64 ≡ low % 2 ^ 64
offset-back p low h k = omega arith

offset-of : (p low low' m : ℕ) → low ≤ p + 2 ^ 64 → low' % 2 ^ 64 ≡ low % 2 ^ 64 → low' ≤ p → p < low' + m → m ≤ 2 ^ 64 → (2 ^ 64 + p - low) % 2 ^ 64 < m
offset-of p low low' m l e h k s = omega arith

-- An address in the window, which may wrap, has a window whose start is congruent to the word's.
start-inside : (f : Fields) (a : ℕ) → f.address < 2 ^ 64 → a < 2 ^ 64 → exponent_of f < 50 → window_offset f a < window_size f
    → window_start (let r : Fields = record f { address = a } in r) % 2 ^ 64 ≡ window_start f % 2 ^ 64
start-inside f a h k l i =
    let g : Fields = record f { address = a } in
    let w = IsWindowAt-window_start f in
    let low = window_start f in
    let off = (2 ^ 64 + (origin + a) - low) % 2 ^ 64 in
    let off_is : off ≡ window_offset f a = ap (λ x. (x - low) % 2 ^ 64) (let s : 2 ^ 64 + (origin + a) ≡ origin + 2 ^ 64 + a = omega arith in s) in
    let n = origin + a - off in
    let off_lt : off < 2 ^ 64 = mod-lt (2 ^ 64 + (origin + a) - low) (omega arith) in
    let back : n % 2 ^ 64 ≡ low % 2 ^ 64 = offset-back (origin + a) low (omega arith) (omega (arith, w.holds)) in
    let j = 50 - exponent_of f in
    let s : j + (exponent_of f + 14) ≡ 64 = omega arith in
    let back_m : n % window_size f ≡ low % window_size f =
    coarser n low j (exponent_of f + 14) (ap (λ x. n % 2 ^ x) s ∙ (back ∙ ap (λ x. low % 2 ^ x) (sym s))) in
    let window : IsWindowAt g n = record { holds = omega arith; ends = omega (arith, i, off_is); congruent = back_m ∙ w.congruent } in
    let same : window_start g ≡ n = IsWindowAt-unique (IsWindowAt-window_start g) window in
    ap (λ x. x % 2 ^ 64) same ∙ back

-- The law, one way.
pub representable-inside : (f : Fields) (a : ℕ) → f.address < 2 ^ 64 → a < 2 ^ 64 → IsInWindow f a → IsRepresentable f a
representable-inside f a h k i =
    ⊎_elim
    (λ below. ⊎_elim (λ l. same-from_50 f a l)
    (λ o. same-below_51 f a (let r : exponent_of f < 51 = omega (arith, below) in r) (start-inside f a h k below o)) (near_start f a h i))
    (λ above. same-from_50 f a above) (cases_lt (exponent_of f) 50)

-- The law, the other way.
pub inside-representable : (f : Fields) (a : ℕ) → f.address < 2 ^ 64 → a < 2 ^ 64 → IsRepresentable f a → IsInWindow f a
unfolding bounds_of
inside-representable f a h k r =
    let g : Fields = record f { address = a } in
    let m = window_size f in
    let low = window_start f in
    let w = IsWindowAt-window_start f in
    let v = IsWindowAt-window_start g in
    let b = place-shift m low (window_start g) (base_mantissa f * 2 ^ exponent_of f) (starts-congruent f a) in
    let base : base_place g % 2 ^ 64 ≡ base_place f % 2 ^ 64 = ap (λ (x : Bounds). x.base) r in
    let same : window_start g % 2 ^ 64 ≡ low % 2 ^ 64 = unshift-64 low (window_start g) (base_place f) (base_place g) base b in
    let narrow : exponent_of f < 50 → window_offset f a < m = λ l.
    let small : m ≤ 2 ^ 64 = let e : exponent_of f + 14 ≤ 64 = omega (arith, l) in pow-le-pow_right (omega arith) e in
    let s : 2 ^ 64 + (origin + a) ≡ origin + 2 ^ 64 + a = omega arith in
    let o = offset-of (origin + a) low (window_start g) m (omega (arith, w.holds)) same v.holds v.ends small in
    subst (λ x. (x - low) % 2 ^ 64 < m) s o in
    ⊎_elim (λ below. in_window f a h (inr (narrow below))) (λ above. inl above) (cases_lt (exponent_of f) 50)

-- The test says so.
pub is_representable-is : (f : Fields) (a : ℕ) → IsTrue (is_representable f a) ↔ IsRepresentable f a
unfolding is_representable
is_representable-is f a = same_ends (bounds_of (let r : Fields = record f { address = a } in r)) (bounds_of f)
