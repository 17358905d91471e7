-- The fields of a capability word, in the format of 64-bit CHERI-RISC-V (CHERI ISA version 9,
-- UCAM-CL-TR-987: the capability format, and the null capability).
--
-- A word is 128 bits in memory form: the address in the lower 64, the metadata in the upper 64. The
-- metadata in register form is that in memory form, exclusive-or `null_metadata`. So the null
-- capability is all zeros in memory.
use Rattle.std.specs.Prelude.{◌<◌, ◌/◌, ◌%◌, ◌*◌, ◌+◌, ◌^◌, ◌==◌, ℕ, Bool, bit_xor, if◌then◌else◌}
use Rattle.cap_codec.specs.declared.word.Word.{Word}
use Rattle.cap_codec.specs.declared.word.Fields.{Fields}

-- The metadata of the null capability in register form: no permissions, unsealed, the internal
-- exponent bit, top field 6 and base field 4.
abbrev pub null_metadata : ℕ
null_metadata = 0x00001ffffc018004

-- The metadata of a word in register form.
abbrev pub metadata_of : ℕ → ℕ
metadata_of bits = bit_xor (bits / 2 ^ 64) null_metadata

-- `count` bits of n, from bit `low` on.
abbrev pub bits_from : ℕ → ℕ → ℕ → ℕ
bits_from n low count = n / 2 ^ low % 2 ^ count

-- The fields of metadata in register form, beside an address.
abbrev pub fields_in : ℕ → ℕ → Fields
fields_in metadata address = record {
  perms = bits_from metadata 48 16;
  reserved = bits_from metadata 46 2;
  flag = bits_from metadata 45 1 == 1;
  otype = bits_from metadata 27 18;
  internal = bits_from metadata 26 1 == 1;
  top12 = bits_from metadata 14 12;
  base14 = bits_from metadata 0 14;
  address = address;
}

-- The fields of a word.
unfoldable pub fields_of : Word → Fields
fields_of w = fields_in (metadata_of w.bits) (w.bits % 2 ^ 64)

-- The fields are within their widths. Those that fill their type need no bound.
pub record IsValid (f : Fields) : Type 0 where
  pub reserved : f.reserved < 2 ^ 2
  pub otype : f.otype < 2 ^ 18
  pub top12 : f.top12 < 2 ^ 12
  pub base14 : f.base14 < 2 ^ 14

-- A flag as a bit.
abbrev pub bit_of : Bool → ℕ
bit_of b = if b then 1 else 0

-- The metadata in register form that has these fields.
abbrev pub metadata_with : Fields → ℕ
metadata_with f =
    f.perms * 2 ^ 48 + f.reserved * 2 ^ 46 + bit_of f.flag * 2 ^ 45 + f.otype * 2 ^ 27
    + bit_of f.internal * 2 ^ 26 + f.top12 * 2 ^ 14 + f.base14

-- The bits of the word that has these fields.
unfoldable pub bits_with : Fields → ℕ
bits_with f = bit_xor (metadata_with f) null_metadata * 2 ^ 64 + f.address
