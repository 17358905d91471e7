-- Which addresses keep a word's bounds (Woodruff et al. 2019, CHERI Concentrate: the representable space;
-- CHERI ISA version 9, UCAM-CL-TR-987: fast representability).
use Rattle.std.specs.Prelude.{◌≡◌, ◌≤◌, ◌^◌, ◌==◌, ◌&&◌, ℕ, ℤ, pos, Bool, ◌⊎◌}
use Rattle.cap_codec.specs.declared.word.Fields.{Fields}
use Rattle.cap_codec.specs.Bounds.{IsWindow, bounds_of, window_size}
use Rattle.cap_codec.specs.Integers.{IsCongruent, IsWithin}
use Rattle.cap_codec.specs.Mantissas.{exponent_of}

-- The word with address a has the bounds that the word has.
abbrev pub IsRepresentable : Fields → ℕ → Type 0
IsRepresentable f a = bounds_of (record f { address = a }) ≡ bounds_of f

-- The same as a test.
unfoldable pub is_representable : Fields → ℕ → Bool
is_representable f a =
    let moved = bounds_of (record f { address = a }) in
    let here = bounds_of f in
    moved.base == here.base && moved.top == here.top

-- a, modulo 2 ^ 64, is one of the integers of the window. So the window may wrap around the address space.
pub record IsInsideWindow (f : Fields) (a : ℕ) : Type 0 where
  pub low : ℤ
  pub n : ℤ
  pub window : IsWindow f low
  pub within : IsWithin low (window_size f) n
  pub congruent : IsCongruent (2 ^ 64) (pos a) n

-- The exponent is at least 50, or a is inside the window. (The limit 50 is this project's profile.)
abbrev pub IsInWindow : Fields → ℕ → Type 0
IsInWindow f a = (50 ≤ exponent_of f) ⊎ IsInsideWindow f a
