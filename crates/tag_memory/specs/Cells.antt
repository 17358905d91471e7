-- Tagged memory and registers as lists of granules (CHERI ISA version 9, UCAM-CL-TR-987: tagged memory; one
-- tag a granule of 16 bytes; register 0 is the null register of RISC-V).
use Rattle.std.specs.Prelude.{◌≡◌, ◌<◌, ◌*◌, ◌/◌, ◌^◌, ◌==◌, ◌&&◌, ℕ, Bool, IsTrue, List, false, if◌then◌else◌, length, not, replicate, slice_index_or, slice_set, true}
use Rattle.std.specs.List.{All}
use Rattle.cap_codec.specs.declared.word.Word.{Word}
use Rattle.tag_memory.specs.Extent.{is_base, is_size, page_granules}

-- ---- memory

-- A granule: the number that its 16 bytes hold, and its tag.
abbrev pub Granule : Type 0
Granule = ℕ × Bool

-- A memory: its first address, its granules in order of address, and for each of its pages whether it may
-- hold tags, and whether it is dirty: a tagged word was written there since all pages were made clean.
pub record MemoryState : Type 0 where
  pub base : ℕ
  pub granules : List Granule
  pub may_hold : List Bool
  pub dirty : List Bool

-- A new memory: every granule zero and untagged, no page that may hold tags, and none dirty.
abbrev pub new_memory : ℕ → ℕ → MemoryState
new_memory base pages = record {
  base = base;
  granules = replicate (page_granules * pages) (0, false);
  may_hold = replicate pages false;
  dirty = replicate pages false;
}

-- Whether this page may hold tags; past the last one there are none.
abbrev pub may_hold_at : List Bool → ℕ → Bool
may_hold_at may_hold page = slice_index_or may_hold page false

-- Whether this page is dirty; past the last one none is.
abbrev pub is_dirty_at : List Bool → ℕ → Bool
is_dirty_at dirty page = slice_index_or dirty page false

-- No page is dirty, of as many as here.
abbrev pub all_clean : List Bool → List Bool
all_clean dirty = replicate (length dirty) false

-- Every page is dirty, of as many as here.
abbrev pub all_dirty : List Bool → List Bool
all_dirty dirty = replicate (length dirty) true

-- A page that may hold no tags has no tagged granule.
abbrev pub AreUntagged : List Granule → List Bool → Type 0
AreUntagged granules may_hold = (i : ℕ) → may_hold_at may_hold (i / page_granules) ≡ false → (slice_index_or granules i (0, false)).1 ≡ false

-- Marks of pages once granule i is written with this tag: where it is one its own page is marked too. So do the
-- pages change that may hold tags, and those that are dirty.
abbrev pub marks_after : List Bool → ℕ → Bool → List Bool
marks_after pages i tag = if tag then slice_set pages (i / page_granules) true else pages

-- What holds of every memory: it is some whole pages that may begin at its base, of granules whose
-- numbers have 128 bits, and pages that may hold no tags have none.
pub record IsMemory (m : MemoryState) : Type 0 where
  pub pages : ℕ
  pub count : length m.granules ≡ page_granules * pages
  pub marks : length m.may_hold ≡ pages
  pub dirty_marks : length m.dirty ≡ pages
  pub untagged : AreUntagged m.granules m.may_hold
  pub size : IsTrue (is_size pages)
  pub place : IsTrue (is_base m.base pages)
  pub numbers : All (λ granule. granule.0 < 2 ^ 128) m.granules

-- ---- registers

-- A register: a word and its tag.
abbrev pub Cell : Type 0
Cell = Word × Bool

-- A granule, as the word that its bytes are.
abbrev pub cell_of : Granule → Cell
cell_of granule = (record { bits = granule.0 }, granule.1)

-- The null capability, untagged.
abbrev pub null_cell : Cell
null_cell = (record { bits = 0 }, false)

-- How many registers there are.
abbrev pub register_count : ℕ
register_count = 32

-- What holds of all registers: there are 32, register 0 is null, and the words have 128 bits.
pub record AreRegisters (cells : List Cell) : Type 0 where
  pub count : length cells ≡ register_count
  pub zero : slice_index_or cells 0 null_cell ≡ null_cell
  pub numbers : All (λ cell. cell.0.bits < 2 ^ 128) cells

-- The 32 registers of a new machine.
abbrev pub new_registers : List Cell
new_registers = replicate register_count null_cell

-- A cell without its tag, where the test passes.
abbrev pub without_tag_if : Bool → Cell → Cell
without_tag_if test cell = (cell.0, cell.1 && not test)

-- What register r reads as. Register 0 is always null.
abbrev pub register_at : List Cell → ℕ → Cell
register_at cells r = if r == 0 then null_cell else slice_index_or cells r null_cell

-- The registers after a write. One to register 0 changes nothing.
abbrev pub registers_with : List Cell → ℕ → Cell → List Cell
registers_with cells r cell = if r == 0 then cells else slice_set cells r cell
