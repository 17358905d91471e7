-- Registers whose tags are taken one after another.
use Rattle.std.proofs.Common.{◌≡◌, ◌<◌, ◌≤◌, ℕ, List, length, get_or}
use Rattle.tag_memory.specs.Cells.{Cell, null_cell, register_count, without_tag_if}
use Rattle.tag_memory.specs.Tags.{is_set}

-- Of the registers below r, those of the mask have lost their tags. The rest is as before.
pub record AreCleared (old : List Cell) (mask : ℕ) (new : List Cell) (r : ℕ) : Type 0 where
  pub count : length new ≡ register_count
  pub done : (k : ℕ) → k < r → get_or new k null_cell ≡ without_tag_if (is_set mask k) (get_or old k null_cell)
  pub rest : (k : ℕ) → r ≤ k → get_or new k null_cell ≡ get_or old k null_cell
