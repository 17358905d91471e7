-- A command or a revoker's step leaves as many pages, so the text of its state is as long as before.
use Rattle.std.proofs.Common.{◌≡◌, ◌∙◌, ◌/◌, ℕ, List, Bool, true, false, Option, Some, None, length, length-set, refl, ap}
use Rattle.std.proofs.lemmas.List.{length-replicate}
use Rattle.tag_memory.specs.Cells.{marks_after}
use Rattle.trace_text.specs.declared.trace.Command.{Command}
use Rattle.trace_text.specs.declared.trace.Command.TheVariants.{Malloc, Free, Copy, SetAddr, Narrow, AndPerm, StoreCap, LoadCap, Write, Show, Sweep, Begin, End}
use Rattle.heap_reply.specs.declared.reply.Trap.{Trap}
use Rattle.machine_steps.specs.Dirty.{dirty_after, dirty_by}
use Rattle.machine_steps.specs.State.{State, register}
use Rattle.machine_steps.specs.Step.{checks, first_failed, index_in}
use Rattle.revoker_steps.specs.declared.command.RevokerCommand.{RevokerCommand}
use Rattle.revoker_steps.specs.declared.command.RevokerCommand.TheVariants.{Paint, Release, UntagGranule, UntagRegister, Visit}
use Rattle.revoker_steps.specs.declared.command.RevokerTrap.{RevokerTrap}
use Rattle.revoker_steps.specs.Revoker.{first_failed_check, revoker_checks}
use Rattle.revoker_steps.specs.RevokerDirty.{revoker_dirty_after, revoker_dirty_by}
use Rattle.state_bytes.specs.Text.{text_length}

marks_length : (marks : List Bool) (i : ℕ) (tag : Bool) → length (marks_after marks i tag) ≡ length marks
marks_length marks i true = length-set marks (i / 256) true
marks_length marks i false = refl

dirty_length : (trap : Option Trap) (s : State) (command : Command) (dirty : List Bool) → length (dirty_by trap s command dirty) ≡ length dirty
dirty_length (Some trap) s command dirty = refl
dirty_length None s (StoreCap ra rs) dirty = marks_length dirty (index_in s (register s ra).0) (register s rs).1
dirty_length None s Begin dirty = length-replicate (length dirty) false
dirty_length None s (Malloc rd size) dirty = refl
dirty_length None s (Free rs) dirty = refl
dirty_length None s (Copy rd rs) dirty = refl
dirty_length None s (SetAddr rd rs address) dirty = refl
dirty_length None s (Narrow rd rs length) dirty = refl
dirty_length None s (AndPerm rd rs mask) dirty = refl
dirty_length None s (LoadCap rd ra) dirty = refl
dirty_length None s (Write ra bytes) dirty = refl
dirty_length None s (Show rs) dirty = refl
dirty_length None s Sweep dirty = refl
dirty_length None s End dirty = refl

-- As long as the bytes of the state before.
pub room_after : (s : State) (command : Command) (dirty new : List Bool) (room : ℕ)
    → new ≡ dirty_after s command dirty → text_length (length dirty) ≡ room → text_length (length new) ≡ room
room_after s command dirty new room is before =
    ap (λ (marks : List Bool). text_length (length marks)) is ∙ (ap text_length (dirty_length (first_failed (checks s command)) s command dirty) ∙ before)

revoker_length : (trap : Option RevokerTrap) (command : RevokerCommand) (dirty : List Bool) → length (revoker_dirty_by trap command dirty) ≡ length dirty
revoker_length (Some trap) command dirty = refl
revoker_length None Paint dirty = length-replicate (length dirty) true
revoker_length None (Visit page) dirty = length-set dirty page false
revoker_length None (UntagGranule address) dirty = refl
revoker_length None (UntagRegister register) dirty = refl
revoker_length None Release dirty = refl

pub room_revoked : (s : State) (command : RevokerCommand) (dirty new : List Bool) (room : ℕ)
    → new ≡ revoker_dirty_after s command dirty → text_length (length dirty) ≡ room → text_length (length new) ≡ room
room_revoked s command dirty new room is before =
    ap (λ (marks : List Bool). text_length (length marks)) is ∙ (ap text_length (revoker_length (first_failed_check (revoker_checks s command)) command dirty) ∙ before)
