-- Where a memory or a heap may lie (this project's own profile): 1 to 1,024 pages of 4,096 bytes, from a
-- multiple of 4,096 on, within 64-bit addresses.
use Rattle.std.specs.Prelude.{ℕ, ◌+◌, ◌*◌, ◌%◌, ◌^◌, ◌==◌, ◌&&◌, Bool, nat_le}

-- So many pages may be had.
abbrev pub is_size : ℕ → Bool
is_size pages = nat_le 1 pages && nat_le pages 1024

-- So many pages may begin at base.
abbrev pub is_base : ℕ → ℕ → Bool
is_base base pages = (base % 4096 == 0) && nat_le (base + 4096 * pages) (2 ^ 64)

-- How many words the tags of a page have, one a granule.
abbrev pub page_words : ℕ
page_words = 4

-- How many granules a page has.
abbrev pub page_granules : ℕ
page_granules = 256
