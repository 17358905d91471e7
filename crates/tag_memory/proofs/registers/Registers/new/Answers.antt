use Rattle.std.proofs.Common.{◌<◌, ◌^◌, arith, refl}
use Rattle.std.proofs.lemmas.List.Elements.{All-replicate}
use Rattle.tag_memory.specs.Cells.{Cell, null_cell}
use Rattle.tag_memory.proofs.registers.Registers.new.Goals as goal

pub invariant_of-result : goal.invariant_of-result
invariant_of-result c = record { count = refl; zero = refl; numbers = All-replicate (λ (cell : Cell). cell.0.bits < 2 ^ 128) 32 null_cell (omega arith) }
