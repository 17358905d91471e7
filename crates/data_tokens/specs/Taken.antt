-- What data tells of the tags that a pass took: the registers and the granules, by their numbers.
use Rattle.std.specs.Prelude.{ℕ, ◌&&◌, Bool, false, not, List, [], ◌∷◌, ◌++◌, codes, if◌then◌else◌, slice_index_or}
use Rattle.std.specs.Fmt.{decimal}
use Rattle.json.specs.Token.{Token, begin_object, end_object, key, number}
use Rattle.heap_model.specs.Blocks.{Span}
use Rattle.heap_model.specs.Sweep.{takes_tag}
use Rattle.tag_memory.specs.Cells.{Cell, Granule, cell_of, register_at, register_count}
use Rattle.tag_memory.specs.Tags.{is_set_for, is_tagged}
use Rattle.data_tokens.specs.Changes.{below}
use Rattle.data_tokens.specs.Line.{list_tokens}

-- The number where it passes the test.
unfoldable pub number_if : (ℕ → Bool) → ℕ → List Token
number_if test k = if test k then number (decimal k) ∷ [] else []

-- The registers that pass the test.
unfoldable pub register_numbers : (ℕ → Bool) → List Token
register_numbers test = below (number_if test) register_count

-- The registers that pass one test, and the granules that pass another.
abbrev pub taken_tokens : (ℕ → Bool) → (ℕ → Bool) → ℕ → List Token
taken_tokens register granule granules =
    key (codes "taken") ∷ begin_object
    ∷ (list_tokens (codes "registers") (register_numbers register) ++ (list_tokens (codes "granules") (below (number_if granule) granules) ++ end_object ∷ []))

-- With these blocks due, the pass takes the tag of register r, and that of granule i.
abbrev pub is_register_taken : List Span → List Cell → ℕ → Bool
is_register_taken due registers r = takes_tag due (register_at registers r)

abbrev pub is_granule_taken : List Span → List Granule → ℕ → Bool
is_granule_taken due granules i = takes_tag due (cell_of (slice_index_or granules i (0, false)))

-- Granule i had a tag by these words, and has none now.
abbrev pub is_tag_gone : List ℕ → List Granule → ℕ → Bool
is_tag_gone tags granules i = is_set_for tags i && not (is_tagged granules i)

-- No tag that a pass took.
abbrev pub none_taken : List Token
none_taken =
    key (codes "taken") ∷ begin_object ∷ (list_tokens (codes "registers") [] ++ (list_tokens (codes "granules") [] ++ end_object ∷ []))
