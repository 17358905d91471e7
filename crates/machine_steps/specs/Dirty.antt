-- Dirty pages (Filardo et al. 2020, Cornucopia: capability dirty pages): those into which a tagged word was stored since
-- an epoch began. No command's step depends on them: they are what the last pass of an epoch is made by.
use Rattle.std.specs.Prelude.{◌≡◌, ◌*◌, List, Bool, Option, Some, None, length}
use Rattle.heap_model.specs.Sweep.{AreInDirtyPages}
use Rattle.tag_memory.specs.Cells.{all_clean, marks_after}
use Rattle.trace_text.specs.declared.trace.Command.{Command}
use Rattle.trace_text.specs.declared.trace.Command.TheVariants.{Malloc, Free, Copy, SetAddr, Narrow, AndPerm, StoreCap, LoadCap, Write, Show, Sweep, Begin, End}
use Rattle.heap_reply.specs.declared.reply.Trap.{Trap}
use Rattle.machine_steps.specs.State.{State, register}
use Rattle.machine_steps.specs.Step.{checks, first_failed, index_in}

-- The dirty pages after a command that is trapped, and after one that isn't: what begins an epoch makes all pages clean,
-- and a store of a tagged word makes its page dirty.
abbrev pub dirty_by : Option Trap → State → Command → List Bool → List Bool
dirty_by (Some trap) s command dirty = dirty
dirty_by None s (StoreCap ra rs) dirty = marks_after dirty (index_in s (register s ra).0) (register s rs).1
dirty_by None s Begin dirty = all_clean dirty
dirty_by None s (Malloc rd size) dirty = dirty
dirty_by None s (Free rs) dirty = dirty
dirty_by None s (Copy rd rs) dirty = dirty
dirty_by None s (SetAddr rd rs address) dirty = dirty
dirty_by None s (Narrow rd rs length) dirty = dirty
dirty_by None s (AndPerm rd rs mask) dirty = dirty
dirty_by None s (LoadCap rd ra) dirty = dirty
dirty_by None s (Write ra bytes) dirty = dirty
dirty_by None s (Show rs) dirty = dirty
dirty_by None s Sweep dirty = dirty
dirty_by None s End dirty = dirty

-- The dirty pages after a command is done in this state.
abbrev pub dirty_after : State → Command → List Bool → List Bool
dirty_after s command dirty = dirty_by (first_failed (checks s command)) s command dirty

-- Each tagged word of memory whose base lies in a painted block stands in a dirty page.
abbrev pub IsDirtied : State → List Bool → Type 0
IsDirtied s dirty = AreInDirtyPages s.granules dirty s.heap.painted

-- There is a mark for each page of the state's memory.
abbrev pub HasPages : State → List Bool → Type 0
HasPages s dirty = length s.granules ≡ 256 * length dirty
