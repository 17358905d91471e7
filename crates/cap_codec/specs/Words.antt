-- A word by itself: its address, its bounds and its permissions, and the words that are made from it.
use Rattle.std.specs.Prelude.{◌+◌, ◌^◌, ◌==◌, ◌&&◌, ℕ, Bool, bit_and, nat_le, not}
use Rattle.cap_codec.specs.declared.word.Bounds.{Bounds}
use Rattle.cap_codec.specs.declared.word.Fields.{Fields}
use Rattle.cap_codec.specs.declared.word.Word.{Word}
use Rattle.cap_codec.specs.Bounds.{bounds_of}
use Rattle.cap_codec.specs.Fields.{bits_with, fields_of}
use Rattle.cap_codec.specs.Representable.{is_representable}
use Rattle.cap_codec.specs.Rounding.{outward_base, outward_top, with_bounds_of}

-- The address of a word, its bounds, and its base.
abbrev pub address_in : Word → ℕ
address_in w = (fields_of w).address

abbrev pub bounds_in : Word → Bounds
bounds_in w = bounds_of (fields_of w)

abbrev pub base_of : Word → ℕ
base_of w = (bounds_in w).base

-- The n bytes from a on lie within the bounds.
abbrev pub lie_within : Bounds → ℕ → ℕ → Bool
lie_within within a n = nat_le within.base a && nat_le (a + n) within.top

-- ---- permissions

-- Permissions, each by its bit (CHERI ISA version 9, UCAM-CL-TR-987: architectural permissions).
abbrev pub global : ℕ
global = 2 ^ 0

abbrev pub load : ℕ
load = 2 ^ 2

abbrev pub store : ℕ
store = 2 ^ 3

abbrev pub load_capability : ℕ
load_capability = 2 ^ 4

abbrev pub store_capability : ℕ
store_capability = 2 ^ 5

-- The word has this permission.
unfoldable pub allows : ℕ → Word → Bool
allows permission w = not (bit_and (fields_of w).perms permission == 0)

-- ---- words made from a word

-- The word with this address, and whether it keeps its bounds there.
unfoldable pub with_address : Word → ℕ → Word
with_address w a = record { bits = bits_with (record (fields_of w) { address = a }) }

abbrev pub keeps_bounds : Word → ℕ → Bool
keeps_bounds w a = is_representable (fields_of w) a

-- The word with those of its permissions that the mask has too.
unfoldable pub with_perms : Word → ℕ → Word
with_perms w mask = record { bits = bits_with (record (fields_of w) { perms = bit_and (fields_of w).perms mask }) }

-- The word with these bounds, its address the base, and whether a word can hold them as they are.
unfoldable pub narrowed_word : Word → ℕ → ℕ → Word
narrowed_word w base top = record { bits = bits_with (with_bounds_of (fields_of w) base top) }

unfoldable pub is_exact : ℕ → ℕ → Bool
is_exact base top = (outward_base base top == base) && (outward_top base top == top)

-- ---- the capability of a block

-- The fields of the null capability with the permissions of a new block: GLOBAL, LOAD, STORE,
-- LOAD_CAPABILITY and STORE_CAPABILITY.
abbrev pub block_fields : Fields
block_fields = record (fields_of (record { bits = 0 })) { perms = 0x3d }

-- The capability of a new block, its address the block's base.
unfoldable pub capability_of : ℕ → ℕ → Word
capability_of base top = record { bits = bits_with (with_bounds_of block_fields base top) }
