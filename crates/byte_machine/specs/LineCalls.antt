-- Steps whose commands are lines of a trace, and whose replies are told as text.
use Rattle.std.specs.Prelude.{◌≡◌, ◌≢◌, ◌<◌, ◌≤◌, ◌++◌, ℕ, List, Ok, Err, drop, false, length, true}
use Rattle.heap_reply.specs.ReplyText.{text_of_reply}
use Rattle.heap_reply.specs.declared.reply.Reply.{Reply}
use Rattle.trace_text.specs.Lines.{is_passed_over, words_of}
use Rattle.trace_text.specs.Reading.{command_of}
use Rattle.trace_text.specs.declared.trace.Command.{Command}
use Rattle.byte_machine.specs.Calls.{IsStep, IsUnreadable}
use Rattle.byte_machine.specs.declared.fault.CallFault.{CallFault}
use Rattle.byte_machine.specs.declared.fault.CallFault.TheVariants.{Line, PassedOver, Room, TextRoom}

-- The line is this command.
pub record IsCommandOf (line : List ℕ) (command : Command) : Type 0 where
  pub counts : is_passed_over (words_of line) ≡ false
  pub command_is : command_of (words_of line) ≡ Ok command

-- Why the line is no command: it is passed over, or faulty.
abbrev pub IsNoCommand : List ℕ → CallFault → Type 0
IsNoCommand line PassedOver = is_passed_over (words_of line) ≡ true
IsNoCommand line (Line fault) = (is_passed_over (words_of line) ≡ false) × (command_of (words_of line) ≡ Err fault)
IsNoCommand line other = ⊥

-- The command of the line is a step, and its reply was written as text where a room begins, in so many bytes.
pub record IsLineStep (old line new before after : List ℕ) (count : ℕ) : Type 0 where
  pub command : Command
  pub reply : Reply
  pub command_is : IsCommandOf line command
  pub step : IsStep old command reply new
  pub count_is : count ≡ length (text_of_reply reply)
  pub text : after ≡ text_of_reply reply ++ drop (length (text_of_reply reply)) before

-- The line is some command.
abbrev pub HasCommand : List ℕ → Type 0
HasCommand line = (command : Command) × IsCommandOf line command

-- Why there was none: the first of these that is true.
abbrev pub IsNoLineStep : List ℕ → List ℕ → ℕ → ℕ → CallFault → Type 0
IsNoLineStep old line room text_room TextRoom = text_room < 200
IsNoLineStep old line room text_room PassedOver = (200 ≤ text_room) × IsNoCommand line PassedOver
IsNoLineStep old line room text_room (Line fault) = (200 ≤ text_room) × IsNoCommand line (Line fault)
IsNoLineStep old line room text_room Room = (200 ≤ text_room) × HasCommand line × (room ≢ length old)
IsNoLineStep old line room text_room other = (200 ≤ text_room) × HasCommand line × (room ≡ length old) × IsUnreadable old other
