-- How the tags that a sweep takes are found: by the bits of a heap's shadow, as masks of bits.
use Rattle.std.specs.Prelude.{◌≡◌, ◌<◌, ◌≤◌, ◌+◌, ◌-◌, ◌*◌, ◌/◌, ◌&&◌, if◌then◌else◌, ℕ, Bool, false, true, List, length, nat_le, slice_index, slice_index_or}
use Rattle.cap_codec.specs.Words.{base_of}
use Rattle.heap_model.specs.Blocks.{Span}
use Rattle.heap_model.specs.Heap.{HeapState, IsSound}
use Rattle.heap_model.specs.Quarantine.{IsShadow}
use Rattle.heap_model.specs.Sweep.{takes_tag}
use Rattle.tag_memory.specs.Cells.{Cell, MemoryState, cell_of, is_dirty_at}
use Rattle.tag_memory.specs.Extent.{page_granules, page_words}
use Rattle.tag_memory.specs.Tags.{is_set_for}

-- The address lies in a painted granule of a heap that starts at `base`.
abbrev pub is_painted : List Bool → ℕ → ℕ → Bool
is_painted shadow base a = nat_le base a && slice_index_or shadow ((a - base) / 16) false

-- The cell is tagged, and the base of its word lies in a painted granule.
abbrev pub is_hit : List Bool → ℕ → Cell → Bool
is_hit shadow base c = c.1 && is_painted shadow base (base_of c.0)

-- So is granule i of the memory.
abbrev pub is_hit_at : MemoryState → List Bool → ℕ → Bool
is_hit_at m shadow i = is_hit shadow m.base (cell_of (slice_index_or m.granules i (0, false)))

-- Masks of so many granules, a word for 64 of them: a bit is 1 exactly where its granule passes the test.
pub record AreBits (test : ℕ → Bool) (granules : ℕ) (masks : List ℕ) : Type 0 where
  pub count : 64 * length masks ≡ granules
  pub bits : (i : ℕ) → i < granules → is_set_for masks i ≡ test i

-- The masks of a memory: a 1 for each granule that is hit.
abbrev pub AreMasks : MemoryState → List Bool → List ℕ → Type 0
AreMasks m shadow masks = AreBits (is_hit_at m shadow) (length m.granules) masks

-- The masks of the pages `from` to `end - 1`, of 256 granules each: a 1 for each granule that is hit.
abbrev pub ArePageMasks : MemoryState → List Bool → ℕ → ℕ → List ℕ → Type 0
ArePageMasks m shadow from end masks = AreBits (λ i. is_hit_at m shadow (page_granules * from + i)) (page_granules * (end - from)) masks

-- So is granule i, in a dirty page.
abbrev pub is_dirty_hit_at : MemoryState → List Bool → ℕ → Bool
is_dirty_hit_at m shadow i = is_hit_at m shadow i && is_dirty_at m.dirty (i / page_granules)

-- The masks of the dirty pages of a memory: a 1 for each granule that is hit there, and 0 in all other pages.
abbrev pub AreDirtyMasks : MemoryState → List Bool → List ℕ → Type 0
AreDirtyMasks m shadow masks = AreBits (is_dirty_hit_at m shadow) (length m.granules) masks

-- A pass looks at this page: at dirty ones only, or at all.
abbrev pub is_looked_at : MemoryState → Bool → ℕ → Bool
is_looked_at m dirty_only page = if dirty_only then is_dirty_at m.dirty page else true

-- So granule i is hit in a page that the pass looks at.
abbrev pub is_pass_hit_at : MemoryState → List Bool → Bool → ℕ → Bool
is_pass_hit_at m shadow dirty_only i = if dirty_only then is_dirty_hit_at m shadow i else is_hit_at m shadow i

-- The masks of a pass, which are 0 for the pages that it doesn't look at.
abbrev pub ArePassMasks : MemoryState → List Bool → Bool → List ℕ → Type 0
ArePassMasks m shadow dirty_only masks = AreBits (is_pass_hit_at m shadow dirty_only) (length m.granules) masks

-- A pass has come to page `end`: the masks of all pages before it are made, and those from it on are still 0.
pub record IsPassedTo (m : MemoryState) (shadow : List Bool) (dirty_only : Bool) (end : ℕ) (masks : List ℕ) : Type 0 where
  pub made : (i : ℕ) → i / page_granules < end → is_set_for masks i ≡ is_pass_hit_at m shadow dirty_only i
  pub rest : (w : ℕ) → page_words * end ≤ w → slice_index masks w ≡ 0

-- ---- what that comes to, where the shadow is a heap's

-- A heap, and its shadow, that lie where a memory begins.
pub record IsShadowOf (heap : HeapState) (base : ℕ) (shadow : List Bool) : Type 0 where
  pub start : heap.base ≡ base
  pub sound : IsSound heap
  pub painted : IsShadow heap shadow

-- The sweep takes the tag of granule i of the memory.
abbrev pub takes_tag_at : MemoryState → List Span → ℕ → Bool
takes_tag_at m due i = takes_tag due (cell_of (slice_index_or m.granules i (0, false)))

-- The masks of a memory: a 1 for each granule whose tag the sweep takes.
abbrev pub TakeTags : MemoryState → List Span → List ℕ → Type 0
TakeTags m due masks = AreBits (takes_tag_at m due) (length m.granules) masks

-- The masks of the pages `from` to `end - 1`: a 1 for each granule whose tag the sweep takes.
abbrev pub TakePageTags : MemoryState → List Span → ℕ → ℕ → List ℕ → Type 0
TakePageTags m due from end masks = AreBits (λ i. takes_tag_at m due (page_granules * from + i)) (page_granules * (end - from)) masks
