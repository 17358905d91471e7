-- How two states differ, as data tells it: the registers, the granules and the blocks that changed, each as it is after.
use Rattle.std.specs.Prelude.{ℕ, zero, suc, ◌+◌, ◌==◌, ◌≡◌, ◌≢◌, ◌&&◌, Bool, true, false, not, List, [], ◌∷◌, ◌++◌, codes, if◌then◌else◌, length, slice_index_or}
use Rattle.std.specs.Fmt.{decimal}
use Rattle.json.specs.Token.{Token, begin_object, end_object, key, number}
use Rattle.tag_memory.specs.Cells.{Cell, Granule, cell_of, null_cell}
use Rattle.tag_memory.specs.Tags.{is_set_for}
use Rattle.data_tokens.specs.Cells.{cell_tokens}

-- What f has for the numbers below n, one after the other.
abbrev pub below : {X : Type 0} → (ℕ → List X) → ℕ → List X
below f zero = []
below f (suc n) = below f n ++ f n

-- ---- granules

-- The same word, with the same tag.
abbrev pub is_same_tag : Bool → Bool → Bool
is_same_tag true b = b
is_same_tag false b = not b

abbrev pub is_same : Cell → Cell → Bool
is_same old new = (old.0.bits == new.0.bits) && is_same_tag old.1 new.1

-- The cell of this number, whose name is told with it, where it changed.
unfoldable pub change_tokens : List ℕ → ℕ → Cell → Cell → List Token
change_tokens name n old new =
    if is_same old new then [] else begin_object ∷ key name ∷ number (decimal n) ∷ (cell_tokens new ++ end_object ∷ [])

-- The registers that changed, of 1 to 31.
abbrev pub register_change : List Cell → List Cell → ℕ → List Token
register_change old new k = change_tokens (codes "r") (k + 1) (slice_index_or old (k + 1) null_cell) (slice_index_or new (k + 1) null_cell)

unfoldable pub registers_tokens : List Cell → List Cell → List Token
registers_tokens old new = below (register_change old new) 31

-- The granules that changed, by their number from the heap's base on.
abbrev pub granule_change : List Granule → List Granule → ℕ → List Token
granule_change old new i =
    change_tokens (codes "i") i (cell_of (slice_index_or old i (0, false))) (cell_of (slice_index_or new i (0, false)))

abbrev pub granules_tokens : List Granule → List Granule → List Token
granules_tokens old new = below (granule_change old new) (length new)

-- ---- what a command may have changed in memory

-- Granule i, of which the bit for it in these words says whether it was tagged, and whose bytes are as before.
abbrev pub tag_change : List ℕ → List Granule → ℕ → List Token
tag_change tags granules i =
    let cell = slice_index_or granules i (0, false) in
    change_tokens (codes "i") i (cell_of (cell.0, is_set_for tags i)) (cell_of cell)

-- All registers but this one are as before.
abbrev pub StayBut : ℕ → List Cell → List Cell → Type 0
StayBut r old new = (k : ℕ) → k ≢ r → slice_index_or new k null_cell ≡ slice_index_or old k null_cell
