use Rattle.std.proofs.Common.{◌≡◌, ◌<◌, ◌+◌, ◌*◌, ℕ, length}
use Rattle.heap_machine.specs.Storage.{MachineState}
use Rattle.tag_memory.specs.Cells.{register_at}
use Rattle.state_bytes.specs.State.{IsState}
use Rattle.state_bytes.specs.Text.{text_of}
use Rattle.state_bytes.proofs.words.read_registers.Given as goal

abbrev pub invariant-loop-r : goal.invariant-loop-r
invariant-loop-r l =
    (length l.registers ≡ 32)
    × ((m : MachineState) → IsState m → text_of m ≡ l.bytes → l.fn.start ≡ 13 + 21 * length m.state.granules
    → (k : ℕ) → k < l.r → register_at l.registers k ≡ register_at m.state.registers k)
