-- The pages so far are the machine's, and those behind are clean.
use Rattle.std.proofs.Common.{◌≡◌, ◌<◌, ◌≤◌, ◌+◌, ◌*◌, ℕ, false, length}
use Rattle.heap_machine.specs.Storage.{MachineState}
use Rattle.tag_memory.specs.Cells.{is_dirty_at}
use Rattle.state_bytes.specs.State.{IsState}
use Rattle.state_bytes.specs.Text.{text_of}
use Rattle.state_bytes.proofs.words.read_dirty.Given as goal

abbrev pub invariant-loop-page : goal.invariant-loop-page
invariant-loop-page l = record {
  granules : l.memory.granules ≡ l.fn.memory.granules;
  base : l.memory.base ≡ l.fn.memory.base;
  count : length l.memory.dirty ≡ length l.fn.memory.dirty;
  rest : (k : ℕ) → l.page ≤ k → is_dirty_at l.memory.dirty k ≡ false;
  marks : (m : MachineState) → IsState m → text_of m ≡ l.bytes → length m.dirty ≡ length l.fn.memory.dirty → l.start ≡ 557 + 5376 * length m.dirty
      → (k : ℕ) → k < l.page → is_dirty_at l.memory.dirty k ≡ is_dirty_at m.dirty k;
}
