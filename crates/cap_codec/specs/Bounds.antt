-- The bounds of a capability word (Woodruff et al. 2019, CHERI Concentrate: decoding of the bounds and
-- the representable space; CHERI ISA version 9, UCAM-CL-TR-987, for 64-bit CHERI-RISC-V).
--
-- First the bounds as a relation on integers, and then as a function, which other definitions cite.
-- `cap_codec::bounds` ensures both, and that the relation holds of one base and one top alone.
use Rattle.std.specs.Prelude.{◌<◌, ◌≤◌, ◌+◌, ◌-◌, ◌*◌, ◌/◌, ◌%◌, ◌^◌, ◌&&◌, nat_lt, ℕ, ℤ, pos, if◌then◌else◌}
use Rattle.cap_codec.specs.declared.word.Bounds.{Bounds}
use Rattle.cap_codec.specs.declared.word.Fields.{Fields}
use Rattle.cap_codec.specs.Integers.{IsCongruent, IsWithin}
use Rattle.cap_codec.specs.Mantissas.{base_mantissa, exponent_of, top_mantissa}

-- ---- the window

-- How many integers the window has: 2 ^ (E + 14).
abbrev pub window_size : Fields → ℕ
window_size f = 2 ^ (exponent_of f + 14)

-- What the window's start is congruent to: (B div 2 ^ 11 - 1) mod 8 eighths of a window, so one eighth
-- below the base's own. (Less 1 and plus 7 are the same modulo 8.)
abbrev pub window_mark : Fields → ℕ
window_mark f = (base_mantissa f / 2 ^ 11 + 7) % 8 * 2 ^ (exponent_of f + 11)

-- The window from `low` on holds the address, and starts where it may. It can start below 0.
pub record IsWindow (f : Fields) (low : ℤ) : Type 0 where
  pub holds : IsWithin low (window_size f) (pos f.address)
  pub start : IsCongruent (window_size f) low (pos (window_mark f))

-- n is what the mantissa says: the integer of the window congruent to the mantissa at its exponent.
pub record IsPlaceOf (f : Fields) (low : ℤ) (mantissa : ℕ) (n : ℤ) : Type 0 where
  pub within : IsWithin low (window_size f) n
  pub congruent : IsCongruent (window_size f) n (pos (mantissa * 2 ^ exponent_of f))

-- ---- the bounds as a relation

-- base is the integer b modulo 2 ^ 64.
pub record IsBase (b : ℤ) (base : ℕ) : Type 0 where
  pub fits : base < 2 ^ 64
  pub congruent : IsCongruent (2 ^ 64) (pos base) b

-- top is the integer t modulo 2 ^ 65 where the exponent is 51 or more. Below, it is t modulo 2 ^ 64 with
-- the one bit 64 for which bits 64 and 63, as a number, are bit 63 of the base or one more, modulo 4.
-- (The limit 51 is this project's profile.)
pub record IsTop (exponent base : ℕ) (t : ℤ) (top : ℕ) : Type 0 where
  pub fits : top < 2 ^ 65
  pub congruent : IsCongruent (2 ^ 64) (pos top) t
  pub large : 51 ≤ exponent → IsCongruent (2 ^ 65) (pos top) t
  pub small : exponent < 51 → (top / 2 ^ 63 + 4 - base / 2 ^ 63) % 4 ≤ 1

-- The word with these fields has this base and this top.
pub record IsBounds (f : Fields) (base top : ℕ) : Type 0 where
  pub low : ℤ
  pub b : ℤ
  pub t : ℤ
  pub window : IsWindow f low
  pub b_place : IsPlaceOf f low (base_mantissa f) b
  pub t_place : IsPlaceOf f low (top_mantissa f) t
  pub base_is : IsBase b base
  pub top_is : IsTop (exponent_of f) base t top

-- ---- the bounds as a function

-- A natural number stands for the integer that is `origin` less. So no integer of a window is below 0,
-- and as a multiple of each window's size, of 2 ^ 64 and of 2 ^ 65 the origin changes no remainder.
abbrev pub origin : ℕ
origin = 2 ^ 66

-- The one number from `low` on, before low + size, that is congruent to x modulo the size.
abbrev pub place_in : ℕ → ℕ → ℕ → ℕ
place_in low size x = low + (x + (size - low % size)) % size

-- Where the window starts.
abbrev pub window_start : Fields → ℕ
window_start f = place_in (origin + f.address + 1 - window_size f) (window_size f) (window_mark f)

-- Where the base is.
abbrev pub base_place : Fields → ℕ
base_place f = place_in (window_start f) (window_size f) (base_mantissa f * 2 ^ exponent_of f)

-- Where the top is.
abbrev pub top_place : Fields → ℕ
top_place f = place_in (window_start f) (window_size f) (top_mantissa f * 2 ^ exponent_of f)

-- The top from t modulo 2 ^ 65: bit 64 is inverted where the exponent is below 51 and bits 64 and 63
-- are neither bit 63 of the base nor one more.
abbrev pub top_from : ℕ → ℕ → ℕ → ℕ
top_from exponent base top =
    if nat_lt exponent 51 && nat_lt 1 ((top / 2 ^ 63 + 4 - base / 2 ^ 63) % 4) then (top + 2 ^ 64) % 2 ^ 65 else top

-- The bounds of the word with these fields.
unfoldable pub bounds_of : Fields → Bounds
bounds_of f = record {
  base = base_place f % 2 ^ 64;
  top = top_from (exponent_of f) (base_place f % 2 ^ 64) (top_place f % 2 ^ 65);
}
