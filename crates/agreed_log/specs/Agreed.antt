-- Which texts agree: they are logs whose given lines are safe and whose events all follow. And so of parts of a text.
use Rattle.std.specs.Prelude.{◌≡◌, ℕ, List, ◌++◌, Option, None, Some, Result, Ok}
use Rattle.trace_text.specs.Lines.{words_of}
use Rattle.trace_text.specs.Reading.{◌>>=◌}
use Rattle.log_text.specs.declared.event.Asked.{Asked}
use Rattle.log_text.specs.declared.fault.LogFault.{LogFault}
use Rattle.log_text.specs.declared.log.Event.{Event}
use Rattle.log_text.specs.Log.{Record, event_at, events_from, log_of, event_of_answer}
use Rattle.given_state.specs.Given.{AreSafe, given_state}
use Rattle.machine_steps.specs.State.{State}
use Rattle.heap_log.specs.declared.verdict.Tally.{Tally}
use Rattle.heap_log.specs.Judged.{AllFollow, EventFollows, tally_of}
use Rattle.heap_log.specs.Counting.{tally_with_event}

-- ---- a whole text

-- The text is a log that agrees, and this is what its events come to.
pub record IsAgreed (text : List ℕ) (tally : Tally) : Type 0 where
  pub log : Record
  pub reads : log_of text ≡ Ok log
  pub safe : AreSafe log.base log.pages log.givens
  pub last : State
  pub follow : AllFollow (given_state log.base log.pages log.givens) log.events last
  pub tally_is : tally ≡ tally_of log.events

-- ---- a line

-- These words answer what was asked, and that follows.
pub record IsAnsweredEvent (asked : Asked) (told : List ℕ) (old new : State) (before after : Tally) : Type 0 where
  pub event : Event
  pub reads : event_of_answer asked (words_of told) ≡ Some event
  pub follows : EventFollows old event new
  pub tally_is : after ≡ tally_with_event before event

-- The event of a line follows, if the line has one.
abbrev pub LineFollows : Option Event → State → State → Tally → Tally → Type 0
LineFollows None old new before after = (new ≡ old) × (after ≡ before)
LineFollows (Some event) old new before after = EventFollows old event new × (after ≡ tally_with_event before event)

-- A line is passed over, or its event follows.
pub record IsAgreedLine (line : List ℕ) (old new : State) (before after : Tally) : Type 0 where
  pub event : Option Event
  pub reads : (number : ℕ) → event_at number (words_of line) ≡ Ok event
  pub follows : LineFollows event old new before after

-- ---- lines

-- What was read of later lines, after these events.
abbrev pub after_events : List (ℕ × Event) → Result (List (ℕ × Event)) LogFault → Result (List (ℕ × Event)) LogFault
after_events events later = later >>= λ list. Ok (events ++ list)

-- Of these lines, numbered from first on, those before others, numbered from next on, have events that follow.
pub record HaveAgreed (first : ℕ) (lines : List (List ℕ)) (next : ℕ) (rest : List (List ℕ)) (old new : State) (tally : Tally) : Type 0 where
  pub events : List (ℕ × Event)
  pub reads : events_from first lines ≡ after_events events (events_from next rest)
  pub follow : AllFollow old events new
  pub tally_is : tally ≡ tally_of events
