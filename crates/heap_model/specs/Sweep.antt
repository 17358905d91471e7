-- The sweep (Filardo et al. 2020, Cornucopia: revocation by the shadow bitmap): each capability whose base
-- lies in one of the blocks that are due loses its tag. Its address and its permissions don't matter, and its bits stay.
use Rattle.std.specs.Prelude.{◌≡◌, ◌+◌, ◌/◌, ◌&&◌, ℕ, Bool, false, true, not, List, count_by, drop, map, slice_index_or}
use Rattle.cap_codec.specs.Words.{base_of}
use Rattle.cap_codec.specs.declared.word.Word.{Word}
use Rattle.heap_model.specs.Blocks.{Span, lies_in}
use Rattle.tag_memory.specs.Cells.{Cell, Granule, cell_of, is_dirty_at}
use Rattle.tag_memory.specs.Extent.{page_granules}

-- The word is revoked: its base lies in a block that is due.
abbrev pub is_revoked : List Span → Word → Bool
is_revoked due w = lies_in due (base_of w)

-- The sweep takes the tag of a word: it is tagged, and revoked.
abbrev pub takes_tag : List Span → Cell → Bool
takes_tag due c = c.1 && is_revoked due c.0

-- A register after the sweep.
abbrev pub swept_cell : List Span → Cell → Cell
swept_cell due c = (c.0, c.1 && not (is_revoked due c.0))

-- A granule after the sweep.
abbrev pub swept_granule : List Span → Granule → Granule
swept_granule due granule = (granule.0, granule.1 && not (is_revoked due (cell_of granule).0))

-- All registers, and all granules, after the sweep.
abbrev pub swept_cells : List Span → List Cell → List Cell
swept_cells due registers = map (swept_cell due) registers

abbrev pub swept_granules : List Span → List Granule → List Granule
swept_granules due granules = map (swept_granule due) granules

-- How many tags a sweep takes. That of register 0, which always reads as null, never counts.
abbrev pub tags_taken : List Span → List Granule → List Cell → ℕ
tags_taken due granules registers =
    count_by (λ g. takes_tag due (cell_of g)) granules + count_by (takes_tag due) (drop 1 registers)

-- Each tagged granule whose base lies in one of these blocks stands in a dirty page (Filardo et al. 2020, Cornucopia: what
-- the last pass of an epoch rests on).
abbrev pub AreInDirtyPages : List Granule → List Bool → List Span → Type 0
AreInDirtyPages granules dirty due =
    (i : ℕ) → takes_tag due (cell_of (slice_index_or granules i (0, false))) ≡ true → is_dirty_at dirty (i / page_granules) ≡ true
