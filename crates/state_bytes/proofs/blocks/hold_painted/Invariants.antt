-- So far the blocks to be painted wait, but those that start from here on.
use Rattle.std.proofs.Common.{◌≡◌, ◌+◌, ◌*◌, false, []}
use Rattle.heap_machine.specs.Storage.{MachineState}
use Rattle.state_bytes.specs.Replay.{blocks_below}
use Rattle.state_bytes.specs.State.{AreExact, IsState}
use Rattle.state_bytes.specs.Text.{text_of}
use Rattle.state_bytes.proofs.blocks.hold_painted.Given as goal

abbrev pub invariant-loop-i : goal.invariant-loop-i
invariant-loop-i l = record {
  size : l.heap.size ≡ l.fn.heap.size;
  open_is : l.heap.is_open ≡ l.fn.heap.is_open;
  exact : AreExact l.fn.heap → AreExact l.heap;
  all : (m : MachineState) → IsState m → text_of m ≡ l.bytes → l.fn.heap ≡ record m.state.heap { live = []; waiting = []; painted = []; is_open = false }
      → l.heap ≡ record l.fn.heap { waiting = blocks_below (l.fn.heap.base + 16 * l.i) m.state.heap.painted };
}
