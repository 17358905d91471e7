use Rattle.std.proofs.Common.{◌≡◌, ◌<◌, ℕ, List, get_or, length}
use Rattle.tag_memory.specs.Cells.{Cell, null_cell}
use Rattle.state_data.proofs.snapshot.copied_registers.Given as goal

pub record Copied (registers copy : List Cell) (r : ℕ) : Type 0 where
  pub count : length copy ≡ 32
  pub done : (k : ℕ) → k < r → get_or copy k null_cell ≡ get_or registers k null_cell

abbrev pub invariant-loop-r : goal.invariant-loop-r
invariant-loop-r l = Copied l.registers l.copy l.r
