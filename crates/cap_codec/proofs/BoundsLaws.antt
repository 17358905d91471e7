-- The bounds of a word: the function gives bounds that meet the relation, and no others meet it.
use Rattle.std.proofs.Common.{refl, ◌≡◌, ℕ, ◌+◌, ◌-◌, ◌*◌, ◌/◌, ◌%◌, ◌^◌, ◌<◌, ◌≤◌, inl, inr, sym, ap, ◌∙◌, arith}
use Rattle.std.specs.Prelude.{◌==◌, ◌&&◌, ◌↔◌, IsTrue, ℤ, pos}
use Rattle.std.proofs.Math.Nat.{add-mul-mod_self_left}
use Rattle.std.proofs.lemmas.Int.{ints}
use Rattle.std.proofs.lemmas.Bool.{cases_lt}
use Rattle.std.proofs.lemmas.Bool.Decides.{nat_tests}
use Rattle.cap_codec.specs.declared.word.Bounds.{Bounds}
use Rattle.cap_codec.specs.declared.word.Fields.{Fields}
use Rattle.cap_codec.specs.Integers.{IsCongruent, IsWithin}
use Rattle.cap_codec.specs.Mantissas.{base_mantissa, exponent_of, top_mantissa}
use Rattle.cap_codec.specs.Bounds.{IsBase, IsBounds, IsPlaceOf, IsTop, IsWindow, base_place, bounds_of, top_from, origin, place_in, top_place, window_mark, window_size, window_start}
use Rattle.cap_codec.proofs.IntegerLaws.{IsCongruent-sym, IsCongruent-trans, near_integers}
use Rattle.cap_codec.proofs.CountedBounds.{IsBounds-counted, IsPlaceAt, IsTopAt, IsWindowAt}
use Rattle.cap_codec.proofs.PlaceLaws.{place_in-congruent, place_in-lt}
use Rattle.cap_codec.proofs.WindowSizes.{window_size-le, window_size-pos}

-- ---- the function meets the relation

pub IsWindowAt-window_start : (f : Fields) → IsWindowAt f (window_start f)
IsWindowAt-window_start f =
    let first = origin + f.address + 1 - window_size f in
    let small = window_size-le f in
    let size = window_size-pos f in
    let before = place_in-lt first (window_size f) (window_mark f) size in
    record { holds = omega arith; ends = omega arith; congruent = place_in-congruent first (window_size f) (window_mark f) size }

pub IsPlaceAt-place_in : (low size x : ℕ) → 0 < size → IsPlaceAt low size x (place_in low size x)
IsPlaceAt-place_in low size x h = record { from = omega arith; before = place_in-lt low size x h; congruent = place_in-congruent low size x h }

corrected-lt : (e base r : ℕ) → r < 2 ^ 65 → top_from e base r < 2 ^ 65
corrected-lt e base r h = grind (arith, nat_tests)

corrected-congruent : (e base r : ℕ) → top_from e base r % 2 ^ 64 ≡ r % 2 ^ 64
corrected-congruent e base r = grind (arith, nat_tests)

corrected-large : (e base r : ℕ) → 51 ≤ e → top_from e base r ≡ r
corrected-large e base r h = grind (arith, nat_tests)

corrected-near : (e base r : ℕ) → base < 2 ^ 64 → r < 2 ^ 65 → e < 51 → (top_from e base r / 2 ^ 63 + 4 - base / 2 ^ 63) % 4 ≤ 1
corrected-near e base r h k s = grind (arith, nat_tests)

pub IsTopAt-corrected : (e base t : ℕ) → base < 2 ^ 64 → IsTopAt e base t (top_from e base (t % 2 ^ 65))
IsTopAt-corrected e base t h =
    let small : t % 2 ^ 65 < 2 ^ 65 = omega arith in
    record {
      fits = corrected-lt e base (t % 2 ^ 65) small;
      congruent = omega (arith, corrected-congruent e base (t % 2 ^ 65));
      large = λ l. corrected-large e base (t % 2 ^ 65) l;
      small = corrected-near e base (t % 2 ^ 65) h small;
    }

-- The bounds that the function gives meet the relation.
pub IsBounds-bounds_of : (f : Fields) → IsBounds f (bounds_of f).base (bounds_of f).top
unfolding bounds_of
IsBounds-bounds_of f =
    let small : base_place f % 2 ^ 64 < 2 ^ 64 = omega arith in
    let size = window_size-pos f in
    IsBounds-counted (record {
      low = window_start f;
      b = base_place f;
      t = top_place f;
      window = IsWindowAt-window_start f;
      b_place = IsPlaceAt-place_in (window_start f) (window_size f) (base_mantissa f * 2 ^ exponent_of f) size;
      t_place = IsPlaceAt-place_in (window_start f) (window_size f) (top_mantissa f * 2 ^ exponent_of f) size;
      base_is = refl;
      top_is = IsTopAt-corrected (exponent_of f) (base_place f % 2 ^ 64) (top_place f) small;
    })

-- ---- nothing else meets it

-- Two integers of one window that are congruent to one number are equal.
one_of_window : {low : ℤ} {size : ℕ} {x m n : ℤ} → IsWithin low size m → IsWithin low size n → IsCongruent size m x → IsCongruent size n x → m ≡ n
one_of_window {n} p q c d = near_integers (IsCongruent-trans c (IsCongruent-sym d)) (omega (arith, ints)) (omega (arith, ints))

pub IsWindow-unique : {f : Fields} {m n : ℤ} → IsWindow f m → IsWindow f n → m ≡ n
IsWindow-unique {f} {m} {n} p q =
    let size = window_size f in
    let c : IsCongruent (window_size f) m n = IsCongruent-trans p.start (IsCongruent-sym q.start) in
    near_integers c (omega (arith, ints)) (omega (arith, ints))

pub IsPlaceOf-unique : {f : Fields} {low : ℤ} {mantissa : ℕ} {m n : ℤ} → IsPlaceOf f low mantissa m → IsPlaceOf f low mantissa n → m ≡ n
IsPlaceOf-unique p q = one_of_window p.within q.within p.congruent q.congruent

-- Two numbers below m that are congruent to one integer are equal.
below_unique : {m : ℕ} {x : ℤ} {a b : ℕ} → a < m → b < m → IsCongruent m (pos a) x → IsCongruent m (pos b) x → a ≡ b
below_unique {a} {b} p q c d =
    let e : pos a ≡ pos b = near_integers (IsCongruent-trans c (IsCongruent-sym d)) (omega (arith, ints)) (omega (arith, ints)) in
    cc

-- Numbers that are congruent to one integer have one remainder.
remainder_unique : {m : ℕ} {x : ℤ} {a b : ℕ} → IsCongruent m (pos a) x → IsCongruent m (pos b) x → a % m ≡ b % m
remainder_unique {m} {a} {b} c d =
    let k = IsCongruent-trans c (IsCongruent-sym d) in
    let e : a + m * k.i ≡ b + m * k.j = omega (arith, ints, k.same) in
    sym (add-mul-mod_self_left a m k.i) ∙ (ap (λ n. n % m) e ∙ add-mul-mod_self_left b m k.j)

-- A top is known by its lower 64 bits where bits 64 and 63 are a base's bit 63 or one more.
pub near_unique : (base m n : ℕ) → base < 2 ^ 64 → m < 2 ^ 65 → n < 2 ^ 65 → m % 2 ^ 64 ≡ n % 2 ^ 64
    → (m / 2 ^ 63 + 4 - base / 2 ^ 63) % 4 ≤ 1 → (n / 2 ^ 63 + 4 - base / 2 ^ 63) % 4 ≤ 1 → m ≡ n
near_unique base m n h p q e near_m near_n = omega arith

IsTop-unique : {e base : ℕ} {t : ℤ} {m n : ℕ} → base < 2 ^ 64 → IsTop e base t m → IsTop e base t n → m ≡ n
IsTop-unique {e} {base} {m} {n} h p q =
    elim (cases_lt e 51) [
      | inl small ↦ near_unique base m n h p.fits q.fits (remainder_unique p.congruent q.congruent) (p.small small) (q.small small)
      | inr large ↦ below_unique p.fits q.fits (p.large large) (q.large large)
    ]

-- The relation holds of one base and one top.
pub IsBounds-unique : {f : Fields} {base top base' top' : ℕ} → IsBounds f base top → IsBounds f base' top' → (base ≡ base') × (top ≡ top')
IsBounds-unique {f} {base} {top} {base'} {top'} p q =
    let low : p.low ≡ q.low = IsWindow-unique p.window q.window in
    let b_moved : IsPlaceOf f p.low (base_mantissa f) q.b = rw low q.b_place in
    let t_moved : IsPlaceOf f p.low (top_mantissa f) q.t = rw low q.t_place in
    let b : p.b ≡ q.b = IsPlaceOf-unique p.b_place b_moved in
    let t : p.t ≡ q.t = IsPlaceOf-unique p.t_place t_moved in
    let base_moved : IsBase p.b base' = rw b q.base_is in
    let base_same : base ≡ base' = below_unique p.base_is.fits base_moved.fits p.base_is.congruent base_moved.congruent in
    let top_moved : IsTop (exponent_of f) base p.t top' = rw (base_same, t) q.top_is in
    (base_same, IsTop-unique p.base_is.fits p.top_is top_moved)

-- Bounds are known by base and top.
pub same_bounds : (p q : Bounds) → p.base ≡ q.base → p.top ≡ q.top → p ≡ q
same_bounds p q b t =
    let make : ℕ → ℕ → Bounds = λ b t. record { base = b; top = t } in
    let e : make p.base p.top ≡ make q.base q.top = cc in
    e

-- Whether both ends are the same says whether the bounds are.
pub same_ends : (p q : Bounds) → IsTrue ((p.base == q.base) && (p.top == q.top)) ↔ (p ≡ q)
same_ends p q =
    let forth : IsTrue ((p.base == q.base) && (p.top == q.top)) → p ≡ q = λ is.
    let base : p.base ≡ q.base = grind (arith, nat_tests) in
    let top : p.top ≡ q.top = grind (arith, nat_tests) in
    same_bounds p q base top in
    let back : p ≡ q → IsTrue ((p.base == q.base) && (p.top == q.top)) = λ same.
    let base : p.base ≡ q.base = ap (λ (r : Bounds). r.base) same in
    let top : p.top ≡ q.top = ap (λ (r : Bounds). r.top) same in
    grind (arith, nat_tests) in
    (forth, back)

-- The function, part by part, with each part under a name of its own.
pub bounds_of-parts : (f : Fields) {e unit size mark low b t top : ℕ} → e ≡ exponent_of f → unit ≡ 2 ^ exponent_of f → size ≡ window_size f → mark ≡ window_mark f
    → low ≡ place_in (origin + f.address + 1 - size) size mark
    → b ≡ place_in low size (base_mantissa f * unit) → t ≡ place_in low size (top_mantissa f * unit)
    → top ≡ top_from e (b % 2 ^ 64) (t % 2 ^ 65)
    → (let r : Bounds = record { base = b % 2 ^ 64; top = top } in r) ≡ bounds_of f
unfolding bounds_of
bounds_of-parts f ee ue se me le be te pe = cc
