-- So far the heap has the blocks that the rows before tell of.
use Rattle.std.proofs.Common.{◌≡◌, []}
use Rattle.heap_machine.specs.Storage.{MachineState}
use Rattle.state_bytes.specs.Replay.{heap_below}
use Rattle.state_bytes.specs.State.{AreExact, IsState}
use Rattle.state_bytes.specs.Text.{text_of}
use Rattle.state_bytes.proofs.blocks.read_others.Given as goal

abbrev pub invariant-loop-i : goal.invariant-loop-i
invariant-loop-i l = record {
  size : l.heap.size ≡ l.fn.heap.size;
  exact : AreExact l.fn.heap → AreExact l.heap;
  all : (m : MachineState) → IsState m → text_of m ≡ l.bytes → l.fn.heap ≡ record m.state.heap { live = []; waiting = [] }
      → l.heap ≡ heap_below m.state.heap l.i;
}
