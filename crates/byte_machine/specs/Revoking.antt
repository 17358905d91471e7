-- A revoker's own steps, from bytes to bytes, and as records of plain numbers: their kinds go on behind those of commands and
-- of replies.
use Rattle.std.specs.Prelude.{◌≡◌, ◌^◌, ◌==◌, ℕ, List, Option, Some, None, nat_lt, if◌then◌else◌}
use Rattle.tag_memory.specs.Cells.{register_count}
use Rattle.heap_machine.specs.Storage.{MachineState}
use Rattle.revoker_steps.specs.declared.command.RevokerCommand.{RevokerCommand}
use Rattle.revoker_steps.specs.declared.command.RevokerCommand.TheVariants.{Paint, Release, UntagGranule, UntagRegister, Visit}
use Rattle.revoker_steps.specs.declared.command.RevokerReply.{RevokerReply}
use Rattle.revoker_steps.specs.declared.command.RevokerReply.TheVariants.{Cleared, Done, Released}
use Rattle.revoker_steps.specs.declared.command.RevokerReply.TheVariants as reply
use Rattle.revoker_steps.specs.declared.command.RevokerTrap.{RevokerTrap}
use Rattle.revoker_steps.specs.declared.command.RevokerTrap.TheVariants as trap
use Rattle.revoker_steps.specs.Revoker.{RevokerStep}
use Rattle.revoker_steps.specs.RevokerDirty.{revoker_dirty_after}
use Rattle.byte_machine.specs.Calls.{IsTextOf}
use Rattle.byte_machine.specs.Records.{bare_record, where_true, with_bytes, with_cleared}
use Rattle.byte_machine.specs.declared.commands.CommandRecord.{CommandRecord}
use Rattle.byte_machine.specs.declared.replies.ReplyRecord.{ReplyRecord}

-- The revoker's command of a record: none where its kind is none's, its page has more than 32 bits, or its register is none.
-- What a kind doesn't use may be anything.
unfoldable pub revoker_of_record : CommandRecord → Option RevokerCommand
revoker_of_record r =
    if r.kind == 13 then Some Paint
    else if r.kind == 14 then where_true (nat_lt r.number (2 ^ 32)) (Visit r.number)
    else if r.kind == 15 then Some (UntagGranule r.number)
    else if r.kind == 16 then where_true (nat_lt r.first register_count) (UntagRegister r.first)
    else if r.kind == 17 then Some Release
    else None

-- The numbers of traps, which but for the last are those of commands.
abbrev pub revoker_trap_number : RevokerTrap → ℕ
revoker_trap_number trap.Bounds = 2
revoker_trap_number trap.Align = 3
revoker_trap_number trap.Open = 8
revoker_trap_number trap.NotOpen = 9
revoker_trap_number trap.Left = 10

-- The record of a reply: what it doesn't tell is 0. It is done, or it took tags, as the replies of commands say so.
abbrev pub record_of_revoker_reply : RevokerReply → ReplyRecord
record_of_revoker_reply Done = bare_record 5
record_of_revoker_reply (Cleared cleared) = with_cleared (bare_record 8) cleared
record_of_revoker_reply (reply.Trap trap) = record (bare_record 10) { trap = revoker_trap_number trap }
record_of_revoker_reply (Released bytes) = with_bytes (bare_record 11) bytes

-- A revoker's step, from bytes to bytes.
pub record IsRevoked (old : List ℕ) (command : RevokerCommand) (reply : RevokerReply) (new : List ℕ) : Type 0 where
  pub from : MachineState
  pub to : MachineState
  pub old_is : IsTextOf old from
  pub new_is : IsTextOf new to
  pub step : RevokerStep from.state command reply to.state
  pub dirty : to.dirty ≡ revoker_dirty_after from.state command from.dirty
