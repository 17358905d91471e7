-- What calls on the bytes of states answer: by the machines of which the bytes tell.
use Rattle.std.specs.Prelude.{◌≡◌, ◌≢◌, ◌<◌, ◌+◌, ◌*◌, ◌/◌, ◌%◌, ◌^◌, ℕ, Bool, true, false, List, length, replicate, slice_index_or}
use Rattle.heap_model.specs.Blocks.{bytes_in}
use Rattle.heap_model.specs.Heap.{held_bytes}
use Rattle.machine_steps.specs.Dirty.{dirty_after}
use Rattle.machine_steps.specs.Follow.{Follows}
use Rattle.machine_storage.specs.Followed.{IsRefused, IsWhy}
use Rattle.heap_machine.specs.Storage.{MachineState}
use Rattle.machine_steps.specs.Safety.{IsUnused, LeavesInUse}
use Rattle.machine_steps.specs.State.{State, first_state}
use Rattle.machine_steps.specs.Step.{Step}
use Rattle.machine_storage.specs.declared.followed.Followed.{Followed}
use Rattle.machine_storage.specs.declared.followed.Followed.TheVariants.{Agrees, Differs}
use Rattle.machine_storage.specs.declared.followed.Why.{Why}
use Rattle.heap_reply.specs.declared.reply.Reply.{Reply}
use Rattle.state_bytes.specs.State.{IsState}
use Rattle.state_bytes.specs.Text.{flag_byte, text_length, text_of}
use Rattle.state_bytes.specs.declared.fault.BytesFault.TheVariants as bytes_fault
use Rattle.tag_memory.specs.Cells.{register_at}
use Rattle.tag_memory.specs.Extent.{is_base, is_size}
use Rattle.trace_text.specs.declared.trace.Command.{Command}
use Rattle.trace_text.specs.declared.trace.Command.TheVariants.{Malloc, Free, Copy, SetAddr, Narrow, AndPerm, StoreCap, LoadCap, Write, Show, Sweep, Begin, End}
use Rattle.byte_machine.specs.declared.fault.CallFault.{CallFault}
use Rattle.byte_machine.specs.declared.fault.CallFault.TheVariants.{Address, BadBase, BadSize, Memory, Register, Room}
use Rattle.byte_machine.specs.declared.fault.CallFault.TheVariants as fault
use Rattle.byte_machine.specs.declared.looking.CountRecord.{CountRecord}
use Rattle.byte_machine.specs.declared.looking.WordRecord.{WordRecord}

-- ---- bytes and machines

-- The bytes are the text of this machine, which has a state that bytes can tell of.
pub record IsTextOf (bytes : List ℕ) (m : MachineState) : Type 0 where
  pub state : IsState m
  pub text : text_of m ≡ bytes

-- The bytes are the text of no state.
abbrev pub HasNoState : List ℕ → Type 0
HasNoState bytes = (m : MachineState) → IsState m → text_of m ≢ bytes

-- Why no machine was made of the bytes: memory ran out, or they are the text of no state.
abbrev pub IsUnreadable : List ℕ → CallFault → Type 0
IsUnreadable bytes Memory = Unit {0}
IsUnreadable bytes (fault.State bytes_fault.Memory) = ⊥
IsUnreadable bytes (fault.State why) = HasNoState bytes
IsUnreadable bytes other = ⊥

-- ---- commands

-- The first machine of a heap, told by these bytes: zero, untagged, without a block, no page of it dirty.
pub record IsFirst (base pages : ℕ) (bytes : List ℕ) : Type 0 where
  pub machine : MachineState
  pub told : IsTextOf bytes machine
  pub first : machine.state ≡ first_state base pages
  pub clean : machine.dirty ≡ replicate pages false

-- Why the first state wasn't written: the first of these that is true.
abbrev pub IsNotFirst : ℕ → ℕ → ℕ → CallFault → Type 0
IsNotFirst base pages room BadSize = is_size pages ≡ false
IsNotFirst base pages room BadBase = (is_size pages ≡ true) × (is_base base pages ≡ false)
IsNotFirst base pages room Room = (is_size pages ≡ true) × (is_base base pages ≡ true) × (room ≢ text_length pages)
IsNotFirst base pages room Memory = (is_size pages ≡ true) × (is_base base pages ≡ true) × (room ≡ text_length pages)
IsNotFirst base pages room other = ⊥

-- The commands that change registers alone, whatever they are answered.
abbrev pub is_of_registers : Command → Bool
is_of_registers (Copy rd rs) = true
is_of_registers (SetAddr rd rs address) = true
is_of_registers (Narrow rd rs length) = true
is_of_registers (AndPerm rd rs mask) = true
is_of_registers (LoadCap rd ra) = true
is_of_registers (Show rs) = true
is_of_registers (Malloc rd size) = false
is_of_registers (Free rs) = false
is_of_registers (StoreCap ra rs) = false
is_of_registers (Write ra bytes) = false
is_of_registers Sweep = false
is_of_registers Begin = false
is_of_registers End = false

-- What may come of a command: from a state, with an answer, to a state.
abbrev pub Relation : Type 1
Relation = State → Command → Reply → State → Type 0

-- The command leads from the machine of the old bytes to this one, as the relation has it. Only unused bytes are handed
-- out, and after a sweep only words in use are left.
pub record LeadsTo (Does : Relation) (old : List ℕ) (command : Command) (reply : Reply) (to : MachineState) : Type 0 where
  pub from : MachineState
  pub old_is : IsTextOf old from
  pub does : Does from.state command reply to.state
  pub dirty : to.dirty ≡ dirty_after from.state command from.dirty
  pub unused : IsUnused from.state command reply
  pub revoked : LeavesInUse command reply to.state

-- The command leads from the machine of the old bytes to that of the new ones.
pub record Leads (Does : Relation) (old : List ℕ) (command : Command) (reply : Reply) (new : List ℕ) : Type 0 where
  pub to : MachineState
  pub new_is : IsTextOf new to
  pub leads : LeadsTo Does old command reply to

-- A step of the machine, from bytes to bytes.
abbrev pub IsStep : List ℕ → Command → Reply → List ℕ → Type 0
IsStep = Leads Step

-- The command may not be answered so in the state of the bytes, for this reason.
pub record Refuses (old : List ℕ) (command : Command) (answer : Reply) (why : Why) : Type 0 where
  pub from : MachineState
  pub old_is : IsTextOf old from
  pub refused : IsRefused from.state command answer
  pub why_is : IsWhy from.state command answer why

-- What became of an answer, and of the bytes in a room: they are those of the state that follows, or as before.
abbrev pub IsJudged : List ℕ → Command → Reply → Followed → List ℕ → List ℕ → Type 0
IsJudged old command answer Agrees before after = Leads Follows old command answer after
IsJudged old command answer (Differs why) before after = Refuses old command answer why × (after ≡ before)

-- ---- looks

-- The counts of the machine of the bytes: bytes in live blocks, in held ones and in none, and whether an epoch is open.
pub record AreCounts (bytes : List ℕ) (counts : CountRecord) : Type 0 where
  pub machine : MachineState
  pub told : IsTextOf bytes machine
  pub live : counts.live ≡ bytes_in machine.state.heap.live
  pub held : counts.held ≡ held_bytes machine.state.heap
  pub free : bytes_in machine.state.heap.live + held_bytes machine.state.heap + counts.free ≡ machine.state.heap.size
  pub open_is : counts.is_open ≡ flag_byte machine.state.heap.is_open

-- 128 bits with a tag, as a record.
abbrev pub record_of_word : ℕ → Bool → WordRecord
record_of_word bits tag = record { tag = flag_byte tag; low = bits % 2 ^ 64; high = bits / 2 ^ 64 }

-- What a register of the machine of the bytes holds.
pub record IsRegister (bytes : List ℕ) (number : ℕ) (word : WordRecord) : Type 0 where
  pub machine : MachineState
  pub told : IsTextOf bytes machine
  pub word_is : word ≡ record_of_word (register_at machine.state.registers number).0.bits (register_at machine.state.registers number).1

-- A granule of the machine starts at the address, the i-th from the base.
pub record StartsAt (m : MachineState) (address i : ℕ) : Type 0 where
  pub inside : i < length m.state.granules
  pub address_is : address ≡ m.state.heap.base + 16 * i

-- What the granule holds that starts at an address, in the machine of the bytes.
pub record IsGranule (bytes : List ℕ) (address : ℕ) (word : WordRecord) : Type 0 where
  pub machine : MachineState
  pub told : IsTextOf bytes machine
  pub index : ℕ
  pub starts : StartsAt machine address index
  pub word_is : word ≡ record_of_word (slice_index_or machine.state.granules index (0, false)).0 (slice_index_or machine.state.granules index (0, false)).1

-- No granule starts at an address, in the machine of the bytes.
pub record HasNoGranule (bytes : List ℕ) (address : ℕ) : Type 0 where
  pub machine : MachineState
  pub told : IsTextOf bytes machine
  pub none : (i : ℕ) → StartsAt machine address i → ⊥

-- Why no granule was told.
abbrev pub IsNoGranule : List ℕ → ℕ → CallFault → Type 0
IsNoGranule bytes address Address = HasNoGranule bytes address
IsNoGranule bytes address other = IsUnreadable bytes other
