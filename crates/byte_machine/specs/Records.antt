-- Records of plain numbers, and what they tell.
use Rattle.std.specs.Prelude.{◌≡◌, ◌+◌, ◌*◌, ◌/◌, ◌%◌, ◌^◌, ◌==◌, ℕ, Bool, true, false, Option, Some, None, nat_lt, if◌then◌else◌}
use Rattle.cap_codec.specs.Bytes.{bits_of_bytes, bytes_of}
use Rattle.heap_model.specs.declared.block.Obstacle.{Obstacle}
use Rattle.heap_model.specs.declared.block.Obstacle.TheVariants as obstacle
use Rattle.machine_storage.specs.declared.followed.Why.{Why}
use Rattle.machine_storage.specs.declared.followed.Why.TheVariants as why
use Rattle.heap_reply.specs.declared.reply.Reply.{Reply}
use Rattle.heap_reply.specs.declared.reply.Reply.TheVariants as reply
use Rattle.heap_reply.specs.declared.reply.Shown.{Shown as ShownCell}
use Rattle.heap_reply.specs.declared.reply.Trap.{Trap}
use Rattle.heap_reply.specs.declared.reply.Trap.TheVariants as trap
use Rattle.state_bytes.specs.Text.{flag_byte}
use Rattle.trace_text.specs.Command.{IsValid}
use Rattle.trace_text.specs.declared.trace.Command.{Command}
use Rattle.trace_text.specs.declared.trace.Command.TheVariants.{Malloc, Free, Copy, SetAddr, Narrow, AndPerm, StoreCap, LoadCap, Write, Show, Sweep, Begin, End}
use Rattle.trace_text.specs.declared.fault.TraceFault.{TraceFault}
use Rattle.trace_text.specs.declared.fault.TraceFault.TheVariants as trace_fault
use Rattle.byte_machine.specs.declared.commands.CommandRecord.{CommandRecord}
use Rattle.byte_machine.specs.declared.faults.FaultRecord.{FaultRecord}
use Rattle.byte_machine.specs.declared.replies.ReplyRecord.{ReplyRecord}
use Rattle.byte_machine.specs.declared.reasons.WhyRecord.{WhyRecord}

-- ---- numbers of 128 bits in two

abbrev pub low_half : ℕ → ℕ
low_half bits = bits % 2 ^ 64

abbrev pub high_half : ℕ → ℕ
high_half bits = bits / 2 ^ 64

abbrev pub wide : ℕ → ℕ → ℕ
wide low high = low + 2 ^ 64 * high

-- ---- commands

-- The value, where the test holds.
abbrev pub where_true : {A : Type 0} → Bool → A → Option A
where_true true x = Some x
where_true false x = None

-- The command that takes permissions, where its mask is one.
abbrev pub and_perm_command : CommandRecord → Option Command
and_perm_command r = where_true (nat_lt r.number 65536) (AndPerm r.first r.second r.number)

-- The command of a record, whatever its registers: its kind says which, and it is none where a mask has more than 16 bits.
-- What a kind doesn't use may be anything.
unfoldable pub command_of_record : CommandRecord → Option Command
command_of_record r =
    if r.kind == 0 then Some (Malloc r.first r.number)
    else if r.kind == 1 then Some (Free r.first)
    else if r.kind == 2 then Some (Copy r.first r.second)
    else if r.kind == 3 then Some (SetAddr r.first r.second r.number)
    else if r.kind == 4 then Some (Narrow r.first r.second r.number)
    else if r.kind == 5 then and_perm_command r
    else if r.kind == 6 then Some (StoreCap r.first r.second)
    else if r.kind == 7 then Some (LoadCap r.first r.second)
    else if r.kind == 8 then Some (Write r.first (bytes_of (wide r.low r.high)))
    else if r.kind == 9 then Some (Show r.first)
    else if r.kind == 10 then Some Sweep
    else if r.kind == 11 then Some Begin
    else if r.kind == 12 then Some End
    else None

-- A record was read as this command, whose registers are registers; or it is no such command's.
abbrev pub IsRead : CommandRecord → Option Command → Type 0
IsRead r (Some command) = (command_of_record r ≡ Some command) × IsValid command
IsRead r None = (command : Command) → command_of_record r ≡ Some command → IsValid command → ⊥

-- A record with these registers and this number, and no bytes.
abbrev pub number_record : ℕ → ℕ → ℕ → ℕ → CommandRecord
number_record kind first second number = record { kind = kind; first = first; second = second; number = number; low = 0; high = 0 }

-- The record of a command: what it doesn't use is 0.
abbrev pub record_of_command : Command → CommandRecord
record_of_command (Malloc rd size) = number_record 0 rd 0 size
record_of_command (Free rs) = number_record 1 rs 0 0
record_of_command (Copy rd rs) = number_record 2 rd rs 0
record_of_command (SetAddr rd rs address) = number_record 3 rd rs address
record_of_command (Narrow rd rs length) = number_record 4 rd rs length
record_of_command (AndPerm rd rs mask) = number_record 5 rd rs mask
record_of_command (StoreCap ra rs) = number_record 6 ra rs 0
record_of_command (LoadCap rd ra) = number_record 7 rd ra 0
record_of_command (Write ra bytes) = record (number_record 8 ra 0 0) { low = low_half (bits_of_bytes bytes); high = high_half (bits_of_bytes bytes) }
record_of_command (Show rs) = number_record 9 rs 0 0
record_of_command Sweep = number_record 10 0 0 0
record_of_command Begin = number_record 11 0 0 0
record_of_command End = number_record 12 0 0 0

-- ---- replies

-- The numbers of traps.
abbrev pub trap_number : Trap → ℕ
trap_number trap.Tag = 0
trap_number trap.Perm = 1
trap_number trap.Bounds = 2
trap_number trap.Align = 3
trap_number trap.Empty = 4
trap_number trap.Inexact = 5
trap_number trap.Freed = 6
trap_number trap.NotBlock = 7
trap_number trap.Open = 8
trap_number trap.NotOpen = 9

abbrev pub trap_of_number : ℕ → Option Trap
trap_of_number n =
    if n == 0 then Some trap.Tag
    else if n == 1 then Some trap.Perm
    else if n == 2 then Some trap.Bounds
    else if n == 3 then Some trap.Align
    else if n == 4 then Some trap.Empty
    else if n == 5 then Some trap.Inexact
    else if n == 6 then Some trap.Freed
    else if n == 7 then Some trap.NotBlock
    else if n == 8 then Some trap.Open
    else if n == 9 then Some trap.NotOpen
    else None

-- A record of this kind, with no more in it.
abbrev pub bare_record : ℕ → ReplyRecord
bare_record kind = record {
  base = 0;
  top = 0;
  top_high = 0;
  address = 0;
  bytes = 0;
  cleared = 0;
  otype = 0;
  perms = 0;
  kind = kind;
  trap = 0;
  tag = 0;
  exponent = 0;
}

-- A record of this kind with a block.
abbrev pub with_bounds : ℕ → ℕ → ℕ → ReplyRecord
with_bounds kind base top = record (bare_record kind) { base = base; top = low_half top; top_high = high_half top }

abbrev pub with_cleared : ReplyRecord → ℕ → ReplyRecord
with_cleared r cleared = record r { cleared = cleared }

abbrev pub with_bytes : ReplyRecord → ℕ → ReplyRecord
with_bytes r bytes = record r { bytes = bytes }

abbrev pub record_of_trap : Trap → ReplyRecord
record_of_trap trap = record (bare_record 10) { trap = trap_number trap }

-- What is shown of a register.
abbrev pub record_of_shown : ShownCell → ReplyRecord
record_of_shown shown = record (with_bounds 9 shown.base shown.top) {
  address = shown.address;
  otype = shown.otype;
  perms = shown.perms;
  tag = flag_byte shown.tag;
  exponent = shown.exponent;
}

-- The record of a reply: what it doesn't tell is 0.
abbrev pub record_of_reply : Reply → ReplyRecord
record_of_reply (reply.Block base top) = with_bounds 0 base top
record_of_reply (reply.BlockAfter base top cleared) = with_cleared (with_bounds 1 base top) cleared
record_of_reply reply.NoSpace = bare_record 2
record_of_reply (reply.NoSpaceAfter cleared) = with_cleared (bare_record 3) cleared
record_of_reply (reply.Held bytes) = with_bytes (bare_record 4) bytes
record_of_reply reply.Done = bare_record 5
record_of_reply reply.Cleared = bare_record 6
record_of_reply (reply.Swept cleared released) = with_bytes (with_cleared (bare_record 7) cleared) released
record_of_reply (reply.Begun cleared) = with_cleared (bare_record 8) cleared
record_of_reply (reply.Shown shown) = record_of_shown shown
record_of_reply (reply.Trap trap) = record_of_trap trap

-- A trap as a reply.
abbrev pub trap_reply : Option Trap → Option Reply
trap_reply None = None
trap_reply (Some trap) = Some (reply.Trap trap)

-- What a record tells of a register, which has this tag.
abbrev pub cell_of_record : ReplyRecord → Bool → ShownCell
cell_of_record r tag = record {
  top = wide r.top r.top_high;
  address = r.address;
  base = r.base;
  otype = r.otype;
  perms = r.perms;
  exponent = r.exponent;
  tag = tag;
}

-- The reply that shows a register, where the tag is 0 or 1.
abbrev pub shown_of_record : ReplyRecord → Option Reply
shown_of_record r = where_true (nat_lt r.tag 2) (reply.Shown (cell_of_record r (r.tag == 1)))

-- The reply of a record: none where no kind has its number, or no trap, or its tag is neither 0 nor 1. What it doesn't
-- use may be anything.
unfoldable pub reply_of_record : ReplyRecord → Option Reply
reply_of_record r =
    if r.kind == 0 then Some (reply.Block r.base (wide r.top r.top_high))
    else if r.kind == 1 then Some (reply.BlockAfter r.base (wide r.top r.top_high) r.cleared)
    else if r.kind == 2 then Some reply.NoSpace
    else if r.kind == 3 then Some (reply.NoSpaceAfter r.cleared)
    else if r.kind == 4 then Some (reply.Held r.bytes)
    else if r.kind == 5 then Some reply.Done
    else if r.kind == 6 then Some reply.Cleared
    else if r.kind == 7 then Some (reply.Swept r.cleared r.bytes)
    else if r.kind == 8 then Some (reply.Begun r.cleared)
    else if r.kind == 9 then shown_of_record r
    else if r.kind == 10 then trap_reply (trap_of_number r.trap)
    else None

-- ---- why an answer isn't allowed

-- A record of this kind, with no more in it.
abbrev pub reason_record : ℕ → WhyRecord
reason_record kind = record { reply = bare_record 0; base = 0; top = 0; top_high = 0; count = 0; kind = kind; claim = 0 }

-- A place was refused, for the reason of this number; and where a block is in the way.
abbrev pub refused_record : ℕ → WhyRecord
refused_record claim = record (reason_record 5) { claim = claim }

abbrev pub block_record : ℕ → ℕ → ℕ → WhyRecord
block_record claim base top = record (refused_record claim) { base = base; top = low_half top; top_high = high_half top }

-- The record of an obstacle, with the block in the way where one is.
abbrev pub record_of_obstacle : Obstacle → WhyRecord
record_of_obstacle obstacle.Uneven = refused_record 1
record_of_obstacle obstacle.Empty = refused_record 2
record_of_obstacle obstacle.Outside = refused_record 3
record_of_obstacle obstacle.Inexact = refused_record 4
record_of_obstacle (obstacle.OverLive block) = block_record 5 block.base block.top
record_of_obstacle (obstacle.OverHeld block) = block_record 6 block.base block.top

-- The record of a reason.
abbrev pub record_of_why : Why → WhyRecord
record_of_why (why.MustBe reply) = record (reason_record 0) { reply = record_of_reply reply }
record_of_why why.NotOfMalloc = reason_record 1
record_of_why why.TooShort = reason_record 2
record_of_why why.MayNotSweep = reason_record 3
record_of_why (why.Takes count) = record (reason_record 4) { count = count }
record_of_why (why.Refused it) = record_of_obstacle it

-- ---- faults of texts

abbrev pub fault_of_line : ℕ → ℕ → FaultRecord
fault_of_line kind line = record { line = line; kind = kind }

-- The record of a fault.
abbrev pub record_of_fault : TraceFault → FaultRecord
record_of_fault trace_fault.Memory = fault_of_line 0 0
record_of_fault trace_fault.TooLong = fault_of_line 1 0
record_of_fault (trace_fault.NoHeap line) = fault_of_line 2 line
record_of_fault (trace_fault.BadHeap line) = fault_of_line 3 line
record_of_fault (trace_fault.BadCommand line) = fault_of_line 4 line
record_of_fault (trace_fault.BadCount line) = fault_of_line 5 line
record_of_fault (trace_fault.BadRegister line) = fault_of_line 6 line
record_of_fault (trace_fault.BadNumber line) = fault_of_line 7 line
record_of_fault (trace_fault.BadData line) = fault_of_line 8 line
