-- What calls on a machine answer that C holds: by the machine behind its handle.
use Rattle.std.specs.Prelude.{◌≡◌, ℕ, List, Option, Some}
use Rattle.byte_machine.specs.Calls.{IsTextOf}
use Rattle.byte_machine.specs.Records.{IsRead, record_of_reply}
use Rattle.byte_machine.specs.Revoking.{record_of_revoker_reply, revoker_of_record}
use Rattle.revoker_steps.specs.declared.command.RevokerCommand.{RevokerCommand}
use Rattle.revoker_steps.specs.declared.command.RevokerReply.{RevokerReply}
use Rattle.revoker_steps.specs.Revoker.{RevokerStep}
use Rattle.revoker_steps.specs.RevokerDirty.{revoker_dirty_after}
use Rattle.byte_machine.specs.declared.commands.CommandRecord.{CommandRecord}
use Rattle.byte_machine.specs.declared.replies.ReplyRecord.{ReplyRecord}
use Rattle.machine_steps.specs.Dirty.{dirty_after}
use Rattle.heap_machine.specs.Storage.{MachineState}
use Rattle.machine_steps.specs.Safety.{IsSafe, IsUnused, LeavesInUse}
use Rattle.machine_steps.specs.Step.{Step}
use Rattle.heap_reply.specs.declared.reply.Reply.{Reply}
use Rattle.state_bytes.specs.State.{AreExact, IsSameState}
use Rattle.state_bytes.specs.Text.{text_of}
use Rattle.trace_text.specs.declared.trace.Command.{Command}

-- The handle has the machine of these bytes.
pub record IsOpened (held : Option MachineState) (bytes : List ℕ) : Type 0 where
  pub machine : MachineState
  pub held_is : held ≡ Some machine
  pub told : IsTextOf bytes machine

-- The handle has a machine, and these bytes are its text.
pub record HasText (held : Option MachineState) (bytes : List ℕ) : Type 0 where
  pub machine : MachineState
  pub held_is : held ≡ Some machine
  pub text_is : text_of machine ≡ bytes

-- The command of a record leads from the machine of a handle to that which it has then, with the reply of a record. Only
-- unused bytes are handed out, and after a sweep only words in use are left. Where a capability could hold the bounds of
-- each block, it can.
pub record IsMachineCommand (old : Option MachineState) (given : CommandRecord) (told : ReplyRecord) (new : Option MachineState) : Type 0 where
  pub from : MachineState
  pub to : MachineState
  pub command : Command
  pub reply : Reply
  pub old_is : old ≡ Some from
  pub new_is : new ≡ Some to
  pub command_is : IsRead given (Some command)
  pub reply_is : told ≡ record_of_reply reply
  pub step : Step from.state command reply to.state
  pub dirty : to.dirty ≡ dirty_after from.state command from.dirty
  pub unused : IsUnused from.state command reply
  pub revoked : LeavesInUse command reply to.state
  pub exact : AreExact from.state.heap → AreExact to.state.heap

-- The same of the revoker's step that a record is.
pub record IsMachineRevoked (old : Option MachineState) (given : CommandRecord) (told : ReplyRecord) (new : Option MachineState) : Type 0 where
  pub from : MachineState
  pub to : MachineState
  pub command : RevokerCommand
  pub reply : RevokerReply
  pub old_is : old ≡ Some from
  pub new_is : new ≡ Some to
  pub command_is : revoker_of_record given ≡ Some command
  pub reply_is : told ≡ record_of_revoker_reply reply
  pub step : RevokerStep from.state command reply to.state
  pub dirty : to.dirty ≡ revoker_dirty_after from.state command from.dirty
  pub safe : IsSafe to.state
  pub exact : AreExact from.state.heap → AreExact to.state.heap

-- What a record asks leads from the machine of a handle to that which it has then.
pub data IsMachineStep (old : Option MachineState) (given : CommandRecord) (told : ReplyRecord) (new : Option MachineState) : Type 0 where
  does_command : IsMachineCommand old given told new → IsMachineStep old given told new
  does_revoker : IsMachineRevoked old given told new → IsMachineStep old given told new

-- Both handles have a machine, and the two are in one state.
pub record IsCopied (held copy : Option MachineState) : Type 0 where
  pub machine : MachineState
  pub other : MachineState
  pub held_is : held ≡ Some machine
  pub copy_is : copy ≡ Some other
  pub same : IsSameState other machine
