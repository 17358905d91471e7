use Rattle.std.proofs.Common.{◌≡◌, ◌<◌, ℕ, List, get_or, length}
use Rattle.tag_memory.specs.Cells.{Cell, null_cell}
use Rattle.state_data.specs.declared.snapshot.Snapshot.{Snapshot}
use Rattle.state_data.proofs.snapshot.Snapshot.follow_registers.Given as goal

-- The registers below r are those now.
pub record AreRegisters (snapshot before : Snapshot) (registers : List Cell) (r : ℕ) : Type 0 where
  pub count : length snapshot.registers ≡ 32
  pub done : (k : ℕ) → k < r → get_or snapshot.registers k null_cell ≡ get_or registers k null_cell
  pub tags : snapshot.tags ≡ before.tags
  pub waiting : snapshot.waiting ≡ before.waiting
  pub painted : snapshot.painted ≡ before.painted
  pub is_open : snapshot.is_open ≡ before.is_open

abbrev pub invariant-loop-r : goal.invariant-loop-r
invariant-loop-r l = AreRegisters l.self l.fn.self l.registers l.r
