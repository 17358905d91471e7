-- What is answered for a log: a status, and the text that goes with it.
use Rattle.std.specs.Prelude.{◌≡◌, ◌==◌, ◌<◌, ◌^◌, ℕ, All, length, Bool, false, true, List, [], ◌++◌, Option, None, Some, Ok, Err, take, if◌then◌else◌}
use Rattle.heap_model.specs.declared.block.Block.{Block as BlockBounds}
use Rattle.heap_model.specs.declared.block.Obstacle.TheVariants.{OverHeld, OverLive}
use Rattle.heap_reply.specs.declared.reply.Reply.TheVariants.{Begun, Swept}
use Rattle.log_text.specs.declared.fault.LogFault.{LogFault}
use Rattle.log_text.specs.declared.fault.LogFault.TheVariants.{Trace}
use Rattle.trace_text.specs.declared.fault.TraceFault.TheVariants.{Memory}
use Rattle.log_text.specs.declared.log.Event.{Event}
use Rattle.log_text.specs.declared.log.Event.TheVariants.{Done, Revoked}
use Rattle.log_text.specs.declared.log.Given.{Given}
use Rattle.log_text.specs.declared.log.Log.{Log}
use Rattle.log_text.specs.Log.{IsListedEvent, IsListedGiven, Record, first_line, log_of}
use Rattle.trace_text.specs.Heap.{IsHeap}
use Rattle.given_state.specs.declared.fault.Lack.{Lack}
use Rattle.given_state.specs.declared.fault.Lack.TheVariants.{Block}
use Rattle.given_state.specs.Given.{AreSafe, IsFirstFlaw, given_state}
use Rattle.machine_storage.specs.declared.followed.Why.TheVariants.{MustBe, Refused, Takes}
use Rattle.revoker_steps.specs.declared.command.RevokerReply.TheVariants as told
use Rattle.revoker_steps.specs.declared.command.RevokerTrap.TheVariants.{Left}
use Rattle.machine_steps.specs.State.{State}
use Rattle.heap_log.specs.declared.verdict.Difference.{Difference}
use Rattle.heap_log.specs.declared.verdict.Difference.TheVariants.{Answer, Step}
use Rattle.heap_log.specs.Due.{due_words}
use Rattle.heap_log.specs.Judged.{AllFollow, DiffersAt, tally_of}
use Rattle.heap_log.specs.Origin.{IsLastFree, gives, hands_out, last_line}
use Rattle.log_answer.specs.declared.lines.Origin.{Origin}
use Rattle.log_answer.specs.declared.lines.Origin.TheVariants.{Freed, HandedOut, Unknown}
use Rattle.log_answer.specs.declared.lines.Origin.TheVariants as origin
use Rattle.log_answer.specs.Text.{agrees_line, differs_line, due_text, line_of_fault, unsafe_line}

-- The first state of a log.
abbrev pub first_of : Record → State
first_of log = given_state log.base log.pages log.givens

-- What holds of a log that was read.
pub record IsReadLog (log : Log) : Type 0 where
  pub heap : IsHeap log.base log.pages
  pub givens : All IsListedGiven log.givens.items
  pub events : All IsListedEvent log.events.items
  pub few : length log.events.items < 2 ^ 32

-- ---- where a block in the way came from

-- A line where there is one, told so.
abbrev pub given_at : Option ℕ → Origin
given_at None = Unknown
given_at (Some line) = origin.Given line

-- A live block was handed out by the last answer with its bounds, or given.
abbrev pub live_from : Option ℕ → Option ℕ → Origin
live_from None given = given_at given
live_from (Some line) given = HandedOut line

-- A held block was freed by the last free of its bounds, or given.
abbrev pub held_from : Option ℕ → Option ℕ → Origin
held_from None given = given_at given
held_from (Some line) given = Freed line

abbrev pub IsHeldFrom : Record → List (ℕ × Event) → BlockBounds → Origin → Type 0
IsHeldFrom log before block from =
    (found : Option ℕ) × (last : State) × IsLastFree (first_of log) block before found last
    × (from ≡ held_from found (first_line (gives block) log.givens))

-- After these events, where the block that is in the way came from.
abbrev pub ComesFrom : Record → List (ℕ × Event) → Difference → Origin → Type 0
ComesFrom log before (Answer (Refused (OverLive block))) from =
    from ≡ live_from (last_line (hands_out block) before) (first_line (gives block) log.givens)
ComesFrom log before (Answer (Refused (OverHeld block))) from = IsHeldFrom log before block from
ComesFrom log before difference from = from ≡ Unknown

-- The line that gives the block over which another is given.
abbrev pub given_from : List (ℕ × Given) → Lack → Origin
given_from givens (Block (OverLive block)) = given_at (first_line (gives block) givens)
given_from givens lack = Unknown

-- ---- words that are due

-- Where the numbers differ, whether registers count too.
abbrev pub unless_equal : ℕ → ℕ → Bool → Option Bool
unless_equal told is registers_too = if told == is then None else Some registers_too

-- Whether a pass took another number of tags than it was said to, or a revoker left some, and whether those of registers count too.
abbrev pub miscounts : Event → Difference → Option Bool
miscounts (Done command answer) (Answer (Takes count)) = Some true
miscounts (Done command (Swept told released)) (Answer (MustBe (Swept is due))) = unless_equal told is true
miscounts (Done command (Begun told)) (Answer (MustBe (Begun is))) = unless_equal told is false
miscounts (Revoked command answer) (Step (told.Trap Left)) = Some true
miscounts event difference = None

abbrev pub due_shown : Option Bool → State → List ℕ
due_shown None s = []
due_shown (Some registers_too) s = due_text (due_words registers_too s)

-- ---- answers

-- A fault that doesn't lie in the text: memory ran out.
abbrev pub is_memory : LogFault → Bool
is_memory (Trace Memory) = true
is_memory fault = false

-- The status and the text of a log: it agrees, an event of it differs, or its given lines tell no safe state.
pub data IsJudged (log : Record) : ℕ → List ℕ → Type 0 where
  agrees : (last : State) → AreSafe log.base log.pages log.givens → AllFollow (first_of log) log.events last → IsJudged log 0 (agrees_line (tally_of log.events))
  differs : (line count : ℕ) (difference : Difference) (from : Origin) (s : State) → AreSafe log.base log.pages log.givens
      → (at : DiffersAt (first_of log) log.events line count difference s) → ComesFrom log (take count log.events) difference from
      → IsJudged log 5 (differs_line line at.event s.heap.is_open from difference ++ due_shown (miscounts at.event difference) s)
  lacks : (line : ℕ) (lack : Lack) → IsFirstFlaw log.base log.pages log.givens line lack → IsJudged log 5 (unsafe_line line (given_from log.givens lack) lack)

-- Those that go with these bytes: the log that they are is judged, or their fault is named. No cutting changes it.
pub data IsLogAnswer (input : List ℕ) : ℕ → List ℕ → Type 0 where
  judged : (log : Record) (status : ℕ) (text : List ℕ) → log_of input ≡ Ok log → IsJudged log status text → IsLogAnswer input status text
  names_fault : (fault : LogFault) → log_of input ≡ Err fault → IsLogAnswer input 3 (line_of_fault fault)
