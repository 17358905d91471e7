-- A shadow as it is stored: 64 granules a word, that of granule k in bit k % 64 of word k / 64.
use Rattle.std.specs.Prelude.{◌*◌, ℕ, Bool, List, length, map}
use Rattle.std.specs.List.{range_with_len}
use Rattle.tag_memory.specs.Tags.{is_set_for}

-- The bits of these words.
unfoldable pub bits_of : List ℕ → List Bool
bits_of words = map (is_set_for words) (range_with_len 0 (64 * length words))
