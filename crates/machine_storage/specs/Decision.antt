-- What a command that has one reply comes to, decided before anything changes; and what the change leaves.
use Rattle.std.specs.Prelude.{◌≡◌, ◌<◌, ℕ, Bool, List, [], false, true, length, slice_set}
use Rattle.heap_model.specs.Blocks.{bytes_in}
use Rattle.heap_model.specs.Heap.{due}
use Rattle.heap_model.specs.Quarantine.{freed_of, with_waiting, without_due}
use Rattle.heap_model.specs.Sweep.{swept_cells, swept_granules, tags_taken, takes_tag}
use Rattle.heap_model.specs.declared.block.Freed.TheVariants.{Held}
use Rattle.sweep_masks.specs.Masks.{TakeTags}
use Rattle.tag_memory.specs.Cells.{all_clean, is_dirty_at, marks_after, register_at, register_count}
use Rattle.tag_memory.specs.Tags.{is_set}
use Rattle.trace_text.specs.declared.trace.Command.{Command}
use Rattle.heap_reply.specs.declared.reply.Reply.TheVariants.{Swept}
use Rattle.machine_steps.specs.Dirty.{dirty_after}
use Rattle.machine_steps.specs.State.{State, with_register}
use Rattle.machine_steps.specs.Step.{Step, after_begin}
use Rattle.machine_storage.specs.Revoked.{AreRevoked}
use Rattle.machine_storage.specs.Storage.{state_of}
use Rattle.machine_storage.specs.declared.storage.Storage.{Storage}
use Rattle.machine_storage.specs.declared.storage.decision.Change.{Change}
use Rattle.machine_storage.specs.declared.storage.decision.Change.TheVariants.{Nothing, Register, Granule, Waits, BeginsEmpty, Begins, Registers, Revokes}
use Rattle.machine_storage.specs.declared.storage.decision.Decision.{Decision}

-- The state once the tagged words whose base lies in a block that is due have lost their tags, and these blocks are free.
abbrev pub revoked : State → State
revoked s = record {
  heap = without_due s.heap;
  granules = swept_granules (due s.heap) s.granules;
  registers = swept_cells (due s.heap) s.registers;
}

-- The state that a change leaves.
abbrev pub left : Storage → Change → State
left m Nothing = state_of m
left m (Register r word tag) = with_register (state_of m) r (word, tag)
left m (Granule i bits tag) = record (state_of m) { granules = slice_set m.memory.granules i (bits, tag) }
left m (Waits base top) = record (state_of m) { heap = with_waiting m.heap base top }
left m BeginsEmpty = after_begin (state_of m)
left m (Begins masks) = after_begin (state_of m)
left m (Registers mask) = revoked (state_of m)
left m (Revokes tags) = revoked (state_of m)

-- The pages that are dirty then.
abbrev pub dirty_left : Storage → Change → List Bool
dirty_left m (Granule i bits tag) = marks_after m.memory.dirty i tag
dirty_left m BeginsEmpty = all_clean m.memory.dirty
dirty_left m (Begins masks) = all_clean m.memory.dirty
dirty_left m Nothing = m.memory.dirty
dirty_left m (Register r word tag) = m.memory.dirty
dirty_left m (Waits base top) = m.memory.dirty
dirty_left m (Registers mask) = m.memory.dirty
dirty_left m (Revokes tags) = m.memory.dirty

-- An epoch begins, and the masks are those of the tags that its first pass takes.
pub record CanBegin (m : Storage) (masks : List ℕ) : Type 0 where
  pub closed : m.heap.is_open ≡ false
  pub masks_take : TakeTags m.memory m.heap.waiting masks

-- No page is dirty, and the mask has the registers whose word's base lies in a painted block.
pub record CanEndClean (m : Storage) (mask : ℕ) : Type 0 where
  pub opened : m.heap.is_open ≡ true
  pub clean : (page : ℕ) → is_dirty_at m.memory.dirty page ≡ false
  pub bits : (r : ℕ) → r < register_count → is_set mask r ≡ takes_tag (due m.heap) (register_at m.registers r)

-- A change can be made: it names a register, a granule, a live block; an epoch is open, or isn't; the masks are those of the
-- tags that are to go.
abbrev pub CanMake : Storage → Change → Type 0
CanMake m Nothing = Unit {0}
CanMake m (Register r word tag) = r < register_count
CanMake m (Granule i bits tag) = i < length m.memory.granules
CanMake m (Waits base top) = freed_of m.heap base top ≡ Held
CanMake m BeginsEmpty = (m.heap.is_open ≡ false) × (m.heap.waiting ≡ [])
CanMake m (Begins masks) = CanBegin m masks.items
CanMake m (Registers mask) = CanEndClean m mask
CanMake m (Revokes tags) = AreRevoked (due m.heap) m.memory m.registers tags

-- The command is answered so, and the change that is left to make leaves what its step does.
pub record IsDecision (m : Storage) (command : Command) (decision : Decision) : Type 0 where
  pub step : Step (state_of m) command decision.reply (left m decision.change)
  pub can : CanMake m decision.change
  pub dirty : dirty_left m decision.change ≡ dirty_after (state_of m) command m.memory.dirty

-- The blocks that are due are revoked: this is answered, and that is what the change leaves.
pub record IsRevocation (m : Storage) (decision : Decision) : Type 0 where
  pub reply : decision.reply ≡ Swept (tags_taken (due m.heap) m.memory.granules m.registers) (bytes_in (due m.heap))
  pub state : left m decision.change ≡ revoked (state_of m)
  pub can : CanMake m decision.change
  pub dirty : dirty_left m decision.change ≡ m.memory.dirty
