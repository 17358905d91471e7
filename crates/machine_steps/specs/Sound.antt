-- What holds of the state of every machine: it is safe, and its granules and registers are as many as they should be.
use Rattle.std.specs.Prelude.{◌≡◌, ◌*◌, length, slice_index_or}
use Rattle.tag_memory.specs.Cells.{null_cell, register_count}
use Rattle.machine_steps.specs.Safety.{IsSafe}
use Rattle.machine_steps.specs.State.{State}

-- There is a granule for each 16 bytes of the heap, and there are 32 registers, the first of them null.
pub record IsMachine (s : State) : Type 0 where
  pub granules : 16 * length s.granules ≡ s.heap.size
  pub count : length s.registers ≡ register_count
  pub zero : slice_index_or s.registers 0 null_cell ≡ null_cell
  pub safe : IsSafe s
