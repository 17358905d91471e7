-- Which logs an allocator may leave: what it was asked and what it answered, one event after another. The definition knows
-- the answers that may be given (heap_machine's Follow), and not how a log is judged.
use Rattle.std.specs.Prelude.{◌≡◌, ◌≢◌, ◌<◌, ◌+◌, ◌*◌, ℕ, Bool, List, [], ◌∷◌, ◌++◌, Option, None, Some, length, slice_get, sum_by}
use Rattle.cap_codec.specs.Bytes.{bits_of_bytes}
use Rattle.trace_text.specs.declared.trace.Command.{Command}
use Rattle.heap_reply.specs.declared.reply.Reply.{Reply}
use Rattle.heap_reply.specs.declared.reply.Reply.TheVariants as reply
use Rattle.log_text.specs.declared.log.Event.{Event}
use Rattle.log_text.specs.declared.log.Event.TheVariants.{Done, Revoked, Seen}
use Rattle.machine_steps.specs.Follow.{Follows}
use Rattle.machine_storage.specs.Followed.{IsWhy}
use Rattle.machine_steps.specs.Safety.{FitsTypes, IsSafe, IsUnused}
use Rattle.machine_steps.specs.State.{State}
use Rattle.revoker_steps.specs.Events.{cleared_by}
use Rattle.revoker_steps.specs.Revoker.{RevokerStep}
use Rattle.revoker_steps.specs.declared.command.RevokerCommand.{RevokerCommand}
use Rattle.revoker_steps.specs.declared.command.RevokerReply.{RevokerReply}
use Rattle.revoker_steps.specs.declared.command.RevokerCommand.TheVariants as step
use Rattle.revoker_steps.specs.declared.command.RevokerReply.TheVariants as told
use Rattle.heap_log.specs.declared.verdict.Difference.{Difference}
use Rattle.heap_log.specs.declared.verdict.Difference.TheVariants.{Answer, Granule, NoGranule, Step}
use Rattle.heap_log.specs.declared.verdict.Tally.{Tally}
use Rattle.heap_log.specs.declared.verdict.Verdict.{Verdict}
use Rattle.heap_log.specs.declared.verdict.Verdict.TheVariants.{Agrees, Differs}

-- ---- events that follow

-- The granule with this number lies at the address. They are counted from the heap's base, a multiple of 16.
pub record LiesAt (s : State) (address i : ℕ) : Type 0 where
  pub at : address ≡ s.heap.base + 16 * i
  pub before_end : i < length s.granules

-- A granule of the heap lies at the address.
abbrev pub HasGranule : State → ℕ → Type 0
HasGranule s address = (i : ℕ) × LiesAt s address i

-- A granule of the heap lies at the address, and has this tag and these 16 bytes.
pub record IsSeen (s : State) (address : ℕ) (tag : Bool) (bytes : List ℕ) : Type 0 where
  pub i : ℕ
  pub at : address ≡ s.heap.base + 16 * i
  pub content : slice_get s.granules i ≡ Some (bits_of_bytes bytes, tag)

-- From the state old the event may happen, and then leaves the state new.
abbrev pub EventFollows : State → Event → State → Type 0
EventFollows old (Done command answer) new = Follows old command answer new
EventFollows old (Revoked command answer) new = RevokerStep old command answer new
EventFollows old (Seen address tag bytes) new = IsSeen old address tag bytes × (new ≡ old)

-- From the state old the events may happen, one after another, and then leave the state new.
abbrev pub AllFollow : State → List (ℕ × Event) → State → Type 0
AllFollow old [] new = new ≡ old
AllFollow old (event ∷ events) new = (mid : State) × EventFollows old event.1 mid × AllFollow mid events new

-- The numbers of an event's command fit their types.
abbrev pub FitsEvent : Event → Type 0
FitsEvent (Done command answer) = FitsTypes command
FitsEvent (Revoked command answer) = Unit {0}
FitsEvent (Seen address tag bytes) = Unit {0}

abbrev pub FitsListed : ℕ × Event → Type 0
FitsListed listed = FitsEvent listed.1

-- Wherever a command stands in these events, the state before it is safe, and what it hands out is unused there.
abbrev pub HandOutUnused : State → List (ℕ × Event) → Type 0
HandOutUnused first events = (before after : List (ℕ × Event)) (line : ℕ) (command : Command) (answer : Reply)
    → events ≡ before ++ (line, Done command answer) ∷ after
    → (mid : State) × AllFollow first before mid × IsSafe mid × IsUnused mid command answer

-- ---- events that don't

-- From this state the event may not happen.
abbrev pub IsRefusedEvent : State → Event → Type 0
IsRefusedEvent old event = (left : State) → EventFollows old event left → ⊥

-- What the state says instead: why the answer may not be given, or what the granule holds that lies there.
abbrev pub SaysInstead : State → Event → Difference → Type 0
SaysInstead s (Done command answer) (Answer why) = IsWhy s command answer why
SaysInstead s (Revoked command answer) (Step reply) = ((left : State) × RevokerStep s command reply left) × (answer ≢ reply)
SaysInstead s (Seen address tag bytes) NoGranule = ¬ HasGranule s address
SaysInstead s (Seen address tag bytes) (Granule held there) = IsSeen s address held there
SaysInstead s event difference = ⊥

-- What is found when an event is judged: nothing, and the state is as it leaves it, or what the state says instead.
abbrev pub IsFound : State → Event → Option Difference → State → Type 0
IsFound old event None new = EventFollows old event new
IsFound old event (Some difference) new = IsRefusedEvent old event × SaysInstead old event difference × (new ≡ old)

-- The events follow up to the one of this line, with so many before it, which may not happen then, as is told.
pub record DiffersAt (old : State) (events : List (ℕ × Event)) (line count : ℕ) (difference : Difference) (new : State) : Type 0 where
  pub before : List (ℕ × Event)
  pub event : Event
  pub after : List (ℕ × Event)
  pub parts : events ≡ before ++ (line, event) ∷ after
  pub count_is : length before ≡ count
  pub follow : AllFollow old before new
  pub refused : IsRefusedEvent new event
  pub instead : SaysInstead new event difference

-- The events before one of them follow, and leave the state new.
pub record HasBegun (old : State) (events : List (ℕ × Event)) (new : State) : Type 0 where
  pub before : List (ℕ × Event)
  pub event : ℕ × Event
  pub after : List (ℕ × Event)
  pub parts : events ≡ before ++ event ∷ after
  pub follow : AllFollow old before new

-- ---- what events come to

-- How many blocks an answer hands out.
abbrev pub blocks_of_reply : Reply → ℕ
blocks_of_reply (reply.Block base top) = 1
blocks_of_reply (reply.BlockAfter base top cleared) = 1
blocks_of_reply answer = 0

-- Of how many passes it tells.
abbrev pub passes_of_reply : Reply → ℕ
passes_of_reply (reply.BlockAfter base top cleared) = 1
passes_of_reply (reply.NoSpaceAfter cleared) = 1
passes_of_reply (reply.Swept cleared released) = 1
passes_of_reply (reply.Begun cleared) = 1
passes_of_reply answer = 0

-- How many tags these took.
abbrev pub tags_of_reply : Reply → ℕ
tags_of_reply (reply.BlockAfter base top cleared) = cleared
tags_of_reply (reply.NoSpaceAfter cleared) = cleared
tags_of_reply (reply.Swept cleared released) = cleared
tags_of_reply (reply.Begun cleared) = cleared
tags_of_reply answer = 0

-- A pass in steps of a revoker's own is that of the epoch that it opens.
abbrev pub passes_of_step : RevokerCommand → RevokerReply → ℕ
passes_of_step step.Paint told.Done = 1
passes_of_step command answer = 0

-- What an event tells: commands, a revoker's too, blocks handed out, passes, and tags that these took.
abbrev pub tally_of_event : Event → Tally
tally_of_event (Done command answer) = record { tags = tags_of_reply answer; commands = 1; blocks = blocks_of_reply answer; passes = passes_of_reply answer }
tally_of_event (Revoked command answer) = record { tags = cleared_by answer; commands = 1; blocks = 0; passes = passes_of_step command answer }
tally_of_event (Seen address tag bytes) = record { tags = 0; commands = 0; blocks = 0; passes = 0 }

-- A sum over such numbers.
abbrev pub sum_over : (Tally → ℕ) → List (ℕ × Event) → ℕ
sum_over number events = sum_by (λ event. number (tally_of_event event.1)) events

-- What they all tell.
abbrev pub tally_of : List (ℕ × Event) → Tally
tally_of events = record {
  tags = sum_over (λ it. it.tags) events;
  commands = sum_over (λ it. it.commands) events;
  blocks = sum_over (λ it. it.blocks) events;
  passes = sum_over (λ it. it.passes) events;
}

-- ---- verdicts

-- What is said of the events from the state old, and that they leave the state new, or the first that may not happen
-- finds it.
abbrev pub IsVerdict : State → List (ℕ × Event) → Verdict → State → Type 0
IsVerdict old events (Agrees tally) new = AllFollow old events new × (tally ≡ tally_of events)
IsVerdict old events (Differs line count difference) new = DiffersAt old events line count difference new

-- Events that agree hand out only what is unused.
abbrev pub AgreesUnused : State → List (ℕ × Event) → Verdict → Type 0
AgreesUnused old events (Agrees tally) = HandOutUnused old events
AgreesUnused old events (Differs line count difference) = Unit {0}
