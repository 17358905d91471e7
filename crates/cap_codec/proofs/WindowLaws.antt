-- An address is inside the window where its distance from the window's start, around the address space, is
-- less than the window's size.
use Rattle.std.proofs.Common.{◌≡◌, ℕ, ◌+◌, ◌-◌, ◌*◌, ◌/◌, ◌%◌, ◌^◌, ◌<◌, ◌≤◌, ◌⊎◌, inl, inr, refl, arith, ⊎_elim}
use Rattle.std.specs.Prelude.{pos, ◌+ℤ◌, ◌-ℤ◌}
use Rattle.std.proofs.lemmas.Int.{ints}
use Rattle.cap_codec.specs.declared.word.Fields.{Fields}
use Rattle.cap_codec.specs.Bounds.{origin, window_size, window_start}
use Rattle.cap_codec.specs.Mantissas.{exponent_of}
use Rattle.cap_codec.specs.Representable.{IsInWindow, IsInsideWindow}
use Rattle.cap_codec.proofs.BoundsLaws.{IsWindow-unique, IsWindowAt-window_start}
use Rattle.cap_codec.proofs.CountedBounds.{IsWindow-counted}
use Rattle.cap_codec.proofs.IntegerLaws.{difference}

-- How far a is above the window's start, around the address space.
abbrev pub window_offset : Fields → ℕ → ℕ
window_offset f a = (origin + 2 ^ 64 + a - window_start f) % 2 ^ 64

-- The exponent is at least 50, or a is less than the window's size above its start.
abbrev pub IsNearStart : Fields → ℕ → Type 0
IsNearStart f a = (50 ≤ exponent_of f) ⊎ (window_offset f a < window_size f)

inside : (f : Fields) (a : ℕ) → f.address < 2 ^ 64 → window_offset f a < window_size f → IsInsideWindow f a
inside f a h near =
    let start = window_start f in
    let w = IsWindowAt-window_start f in
    let x = window_offset f a in
    let q = (origin + 2 ^ 64 + a - start) / 2 ^ 64 in
    let low = pos start -ℤ pos origin in
    record {
      low = low;
      n = low +ℤ pos x;
      window = IsWindow-counted w;
      within = record { from = omega (arith, ints); before = omega (arith, ints) };
      congruent = record { i = 1; j = q; same = omega (arith, ints, w.holds) };
    }

-- x is congruent to the distance d of an integer n from the start.
offset-most : (a start x d i j : ℕ) → start ≤ origin + 2 ^ 64 → x ≡ (origin + 2 ^ 64 + a - start) % 2 ^ 64
    → a + i * 2 ^ 64 + origin ≡ start + d + j * 2 ^ 64 → x ≤ d
offset-most a start x d i j h x_is e = omega arith

near-start : (f : Fields) (a : ℕ) → f.address < 2 ^ 64 → IsInsideWindow f a → window_offset f a < window_size f
near-start f a h i =
    let start = window_start f in
    let w = IsWindowAt-window_start f in
    let low : i.low ≡ pos start -ℤ pos origin = IsWindow-unique i.window (IsWindow-counted w) in
    let d = difference i.n in
    let p = d.0 in
    let q = d.1 in
    let from : start + q ≤ p + origin = omega (arith, ints, low, d.2, i.within.from) in
    let before : p + origin < start + q + window_size f = omega (arith, ints, low, d.2, i.within.before) in
    let same : a + i.congruent.i * 2 ^ 64 + q ≡ p + i.congruent.j * 2 ^ 64 = omega (arith, ints, d.2, i.congruent.same) in
    let most = offset-most a start (window_offset f a) (p + origin - q - start) i.congruent.i i.congruent.j (omega (arith, w.holds)) refl (omega arith) in
    omega arith

pub in_window : (f : Fields) (a : ℕ) → f.address < 2 ^ 64 → IsNearStart f a → IsInWindow f a
in_window f a h i = ⊎_elim (λ l. inl l) (λ l. inr (inside f a h l)) i

pub near_start : (f : Fields) (a : ℕ) → f.address < 2 ^ 64 → IsInWindow f a → IsNearStart f a
near_start f a h i = ⊎_elim (λ l. inl l) (λ l. inr (near-start f a h l)) i
