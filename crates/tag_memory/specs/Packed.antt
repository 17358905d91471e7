-- A memory as it is kept: for each granule a number, and where the base of the word lies that it is; a word of tags for 64
-- of them, and two marks for each page.
use Rattle.std.specs.Prelude.{◌≡◌, ◌<◌, ◌*◌, ◌^◌, length, true}
use Rattle.std.specs.List.{All}
use Rattle.tag_memory.specs.Bases.{base_granules}
use Rattle.tag_memory.specs.Cells.{MemoryState}
use Rattle.tag_memory.specs.Extent.{is_base, is_size, page_granules, page_words}
use Rattle.tag_memory.specs.Tags.{AreBlank, granules_of}
use Rattle.tag_memory.specs.declared.memory.Memory.TheInside.{Inside}

-- What a caller sees of a memory.
abbrev pub memory_inside : Inside → MemoryState
memory_inside m = record {
  base = m.base;
  granules = granules_of m.bits.items m.tags.items;
  may_hold = m.may_hold.items;
  dirty = m.dirty.items;
}

-- The parts of a memory agree.
pub record ArePacked (m : Inside) : Type 0 where
  pub granules : length m.bits.items ≡ page_granules * m.pages
  pub words : length m.tags.items ≡ page_words * m.pages
  pub size : is_size m.pages ≡ true
  pub place : is_base m.base m.pages ≡ true
  pub numbers : All (λ number. number < 2 ^ 128) m.bits.items
  pub bases : m.granules_of_bases.items ≡ base_granules m.base m.bits.items
  pub marks : length m.may_hold.items ≡ m.pages
  pub blank : AreBlank m.tags.items m.may_hold.items
  pub dirty_marks : length m.dirty.items ≡ m.pages
