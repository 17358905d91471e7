-- The exponent and the mantissas of a capability word (Woodruff et al. 2019, CHERI Concentrate: the
-- internal exponent and the encoding of the bounds).
use Rattle.std.specs.Prelude.{◌+◌, ◌-◌, ◌*◌, ◌/◌, ◌%◌, ◌^◌, nat_lt, ℕ, min, if◌then◌else◌}
use Rattle.cap_codec.specs.declared.word.Fields.{Fields}
use Rattle.cap_codec.specs.Fields.{bit_of}

-- The exponent E: 0 without the internal exponent; with it, the low 3 bits of the top field above the
-- low 3 bits of the base field, at most 52.
abbrev pub exponent_of : Fields → ℕ
exponent_of f = if f.internal then min (8 * (f.top12 % 8) + f.base14 % 8) 52 else 0

-- The 14 bits B of the base: its field, whose low 3 bits count as 0 where they hold the exponent.
abbrev pub base_mantissa : Fields → ℕ
base_mantissa f = if f.internal then f.base14 - f.base14 % 8 else f.base14

-- The low 12 bits of the top: its field, whose low 3 bits count as 0 where they hold the exponent.
abbrev pub top_low : Fields → ℕ
top_low f = if f.internal then f.top12 - f.top12 % 8 else f.top12

-- 1 where the low 12 bits of the top are less than those of the base.
abbrev pub carry_of : Fields → ℕ
carry_of f = bit_of (nat_lt (top_low f) (base_mantissa f % 2 ^ 12))

-- The 14 bits T of the top. Its upper two follow from those of the base: the length is below 2 ^ 12,
-- or from 2 ^ 12 on with the internal exponent.
abbrev pub top_mantissa : Fields → ℕ
top_mantissa f = (base_mantissa f / 2 ^ 12 + carry_of f + bit_of f.internal) % 4 * 2 ^ 12 + top_low f
