-- Calls on the bytes of states, whose commands, replies and reasons are records, and which answer codes.
use Rattle.std.specs.Prelude.{◌≡◌, ◌<◌, ◌++◌, ℕ, List, None, Some, Ok, Err, drop, length}
use Rattle.byte_machine.specs.Calls.{IsStep, Leads, Refuses}
use Rattle.byte_machine.specs.LineCalls.{IsCommandOf, IsNoCommand}
use Rattle.byte_machine.specs.Records.{IsRead, record_of_fault, reply_of_record, record_of_reply, record_of_why}
use Rattle.byte_machine.specs.Revoking.{IsRevoked, record_of_revoker_reply, revoker_of_record}
use Rattle.revoker_steps.specs.declared.command.RevokerCommand.{RevokerCommand}
use Rattle.revoker_steps.specs.declared.command.RevokerReply.{RevokerReply}
use Rattle.byte_machine.specs.declared.commands.CommandRecord.{CommandRecord}
use Rattle.byte_machine.specs.declared.fault.CallFault.{CallFault}
use Rattle.byte_machine.specs.declared.fault.CallFault.TheVariants as fault
use Rattle.byte_machine.specs.declared.faults.FaultRecord.{FaultRecord}
use Rattle.byte_machine.specs.declared.reasons.WhyRecord.{WhyRecord}
use Rattle.byte_machine.specs.declared.replies.ReplyRecord.{ReplyRecord}
use Rattle.machine_steps.specs.Follow.{Follows}
use Rattle.machine_storage.specs.declared.followed.Why.{Why}
use Rattle.heap_reply.specs.declared.reply.Reply.{Reply}
use Rattle.trace_text.specs.Reading.{Script, fault_at, trace_of}
use Rattle.trace_text.specs.declared.fault.LineFault.{LineFault}
use Rattle.trace_text.specs.declared.fault.TraceFault.{TraceFault}
use Rattle.trace_text.specs.declared.trace.Command.{Command}
use Rattle.kernelstint.specs.Codes.{bad_address, bad_base, bad_line, bad_register, bad_room, bad_size, bad_state, no_memory, passed_over, short_text}

-- The code of each reason for which a call gives no answer.
abbrev pub call_code : CallFault → ℕ
call_code fault.Memory = no_memory
call_code fault.Room = bad_room
call_code (fault.State why) = bad_state
call_code fault.BadSize = bad_size
call_code fault.BadBase = bad_base
call_code fault.Register = bad_register
call_code fault.Address = bad_address
call_code fault.TextRoom = short_text
call_code fault.PassedOver = passed_over
call_code (fault.Line why) = bad_line

-- A call gave no answer for a reason that holds and has this code.
pub record HasFault (Holds : CallFault → Type 0) (code : ℕ) : Type 0 where
  pub fault : CallFault
  pub holds : Holds fault
  pub code_is : code ≡ call_code fault

-- The command of a record leads from the old bytes to the new ones, with the reply of a record; or the revoker's step does that the
-- record is.
pub data IsHostStep (old : List ℕ) (given : CommandRecord) (told : ReplyRecord) (new : List ℕ) : Type 0 where
  does_command : (command : Command) (reply : Reply) → IsRead given (Some command) → told ≡ record_of_reply reply
      → IsStep old command reply new → IsHostStep old given told new
  does_revoker : (command : RevokerCommand) (reply : RevokerReply) → revoker_of_record given ≡ Some command → told ≡ record_of_revoker_reply reply
      → IsRevoked old command reply new → IsHostStep old given told new

-- A record is no command's and no step of a revoker.
abbrev pub IsNoStep : CommandRecord → Type 0
IsNoStep given = IsRead given None × (revoker_of_record given ≡ None)

-- The command and the answer of two records.
pub record AreRead (given : CommandRecord) (answered : ReplyRecord) (command : Command) (answer : Reply) : Type 0 where
  pub command_is : IsRead given (Some command)
  pub answer_is : reply_of_record answered ≡ Some answer

-- The command of a record may be answered by that of another, and then leads from the old bytes to the new ones.
pub record IsHostFollow (old : List ℕ) (given : CommandRecord) (answered : ReplyRecord) (new : List ℕ) : Type 0 where
  pub command : Command
  pub answer : Reply
  pub read : AreRead given answered command answer
  pub follows : Leads Follows old command answer new

-- It may not be, for the reason of a third.
pub record IsHostRefusal (old : List ℕ) (given : CommandRecord) (answered : ReplyRecord) (told : WhyRecord) : Type 0 where
  pub command : Command
  pub answer : Reply
  pub reason : Why
  pub read : AreRead given answered command answer
  pub refused : Refuses old command answer reason
  pub told_is : told ≡ record_of_why reason

-- All of a text was written where a room begins, in so many bytes.
pub record IsWritten (IsText : List ℕ → Type 0) (before after : List ℕ) (count : ℕ) : Type 0 where
  pub text : List ℕ
  pub text_is : IsText text
  pub count_is : count ≡ length text
  pub after_is : after ≡ text ++ drop (length text) before

-- A text has so many bytes, which are more than a room has.
pub record IsTooLong (IsText : List ℕ → Type 0) (room count : ℕ) : Type 0 where
  pub text : List ℕ
  pub text_is : IsText text
  pub count_is : count ≡ length text
  pub longer : room < count

-- A text is no trace.
pub record IsFaulty (text : List ℕ) : Type 0 where
  pub fault : TraceFault
  pub fault_is : trace_of text ≡ Err fault

-- A text is no trace, and this is told of its first fault.
pub record HasFaultOfText (text : List ℕ) (told : FaultRecord) : Type 0 where
  pub fault : TraceFault
  pub fault_is : trace_of text ≡ Err fault
  pub told_is : told ≡ record_of_fault fault

-- A text is a trace.
pub record IsTraceText (text : List ℕ) : Type 0 where
  pub script : Script
  pub trace_is : trace_of text ≡ Ok script

-- A line is no command, and this is told of it, as of line 1 of a text.
pub record HasFaultOfLine (line : List ℕ) (told : FaultRecord) : Type 0 where
  pub wrong : LineFault
  pub is_none : IsNoCommand line (fault.Line wrong)
  pub told_is : told ≡ record_of_fault (fault_at 1 wrong)

-- A line is a command.
pub record IsCommandLine (line : List ℕ) : Type 0 where
  pub command : Command
  pub command_is : IsCommandOf line command
