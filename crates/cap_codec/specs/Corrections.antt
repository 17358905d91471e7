-- The corrections of the address's upper bits (Woodruff et al. 2019, CHERI Concentrate: decoding of the
-- bounds): by how many windows the base and the top lie apart from what the address's own upper bits say.
use Rattle.std.specs.Prelude.{◌≡◌, ◌*◌, ◌/◌, ◌^◌, ℕ, ℤ, pos, ◌+ℤ◌, ◌*ℤ◌}
use Rattle.cap_codec.specs.declared.word.Fields.{Fields}
use Rattle.cap_codec.specs.Bounds.{IsPlaceOf, IsWindow, window_size}
use Rattle.cap_codec.specs.Mantissas.{base_mantissa, exponent_of, top_mantissa}

-- The mantissa at its exponent below the address's own upper bits, these with a correction.
abbrev pub place_with : Fields → ℤ → ℕ → ℤ
place_with f correction mantissa =
    (pos (f.address / window_size f) +ℤ correction) *ℤ pos (window_size f) +ℤ pos (mantissa * 2 ^ exponent_of f)

-- b and t are the integers that the mantissas of base and top say, and these corrections lead to them.
pub record AreCorrections (f : Fields) (first second : ℤ) : Type 0 where
  pub low : ℤ
  pub b : ℤ
  pub t : ℤ
  pub window : IsWindow f low
  pub b_place : IsPlaceOf f low (base_mantissa f) b
  pub t_place : IsPlaceOf f low (top_mantissa f) t
  pub b_is : b ≡ place_with f first (base_mantissa f)
  pub t_is : t ≡ place_with f second (top_mantissa f)
