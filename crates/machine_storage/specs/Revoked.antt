-- The tags that a sweep takes, as masks of bits, and what is left once they are taken.
use Rattle.std.specs.Prelude.{◌≡◌, ◌<◌, ℕ, List, length, slice_index_or}
use Rattle.heap_model.specs.Blocks.{Span}
use Rattle.heap_model.specs.Sweep.{swept_cells, swept_granules, takes_tag}
use Rattle.sweep_masks.specs.Masks.{TakeTags}
use Rattle.tag_memory.specs.Cells.{Cell, MemoryState, null_cell, register_at, register_count}
use Rattle.tag_memory.specs.Tags.{is_set}
use Rattle.machine_storage.specs.declared.storage.revocation.RevokedTags.{RevokedTags}

-- With these blocks held, they are the tags of a memory and of 32 registers that a sweep takes.
pub record AreRevoked (held : List Span) (memory : MemoryState) (registers : List Cell) (tags : RevokedTags) : Type 0 where
  pub granules : TakeTags memory held tags.masks.items
  pub bits : (r : ℕ) → r < register_count → is_set tags.registers r ≡ takes_tag held (register_at registers r)
  pub count : length registers ≡ register_count
  pub zero : slice_index_or registers 0 null_cell ≡ null_cell

-- They are taken. The pages that are dirty stay so.
pub record AreApplied (held : List Span) (memory : MemoryState) (registers : List Cell) (new : MemoryState) (left : List Cell) : Type 0 where
  pub base : new.base ≡ memory.base
  pub granules : new.granules ≡ swept_granules held memory.granules
  pub dirty : new.dirty ≡ memory.dirty
  pub registers_are : left ≡ swept_cells held registers
