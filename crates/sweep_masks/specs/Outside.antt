-- Words whose bases lie elsewhere than all painted granules do.
use Rattle.std.specs.Prelude.{◌≤◌, ◌<◌, ◌-◌, ◌/◌, ℕ, slice_index_or, false}
use Rattle.cap_codec.specs.Words.{base_of}
use Rattle.tag_memory.specs.Cells.{MemoryState, cell_of}

-- The address at which the bounds of granule i's word begin.
abbrev pub base_at : MemoryState → ℕ → ℕ
base_at memory i = base_of (cell_of (slice_index_or memory.granules i (0, false))).0

-- It lies in none of the memory's granules from the first of these on, before the end.
pub record HasBaseOutside (memory : MemoryState) (first end i : ℕ) : Type 0 where
  pub outside : memory.base ≤ base_at memory i → first ≤ (base_at memory i - memory.base) / 16 → (base_at memory i - memory.base) / 16 < end → ⊥
