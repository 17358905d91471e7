-- The 16 bytes of a word in memory: the address, little endian, and then the metadata in memory form,
-- little endian (CHERI ISA version 9, UCAM-CL-TR-987: capabilities in memory).
use Rattle.std.specs.Prelude.{ℕ, List, ◌+◌, ◌*◌, ◌/◌, ◌%◌, ◌^◌, ◌++◌, drop}
use Rattle.byteorder.specs.Endian.{little_bytes, little_number}

-- The bytes of these bits.
abbrev pub bytes_of : ℕ → List ℕ
bytes_of bits = little_bytes 8 (bits % 2 ^ 64) ++ little_bytes 8 (bits / 2 ^ 64)

-- The bits that these bytes hold.
abbrev pub bits_of_bytes : List ℕ → ℕ
bits_of_bytes bytes = little_number 8 bytes + 2 ^ 64 * little_number 8 (drop 8 bytes)
