-- A shadow as a list of bits.
use Rattle.std.proofs.Common.{◌≡◌, ◌<◌, ◌*◌, ℕ, false, List, length, get_or, arith}
use Rattle.std.proofs.lemmas.List.FromFn.{get_or-map-range_with_len, length-map-range_with_len}
use Rattle.heap_model.specs.Shadow.{bits_of}
use Rattle.tag_memory.specs.Tags.{is_set_for}

pub length-bits_of : (words : List ℕ) → length (bits_of words) ≡ 64 * length words
unfolding bits_of
length-bits_of words = length-map-range_with_len (is_set_for words) 0 (64 * length words)

pub get_or-bits_of : (words : List ℕ) (k : ℕ) → k < 64 * length words → get_or (bits_of words) k false ≡ is_set_for words k
unfolding bits_of
get_or-bits_of words k lt = get_or-map-range_with_len (is_set_for words) 0 (64 * length words) k k false lt (omega arith)
