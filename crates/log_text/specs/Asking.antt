-- What a line after the given lines asks, with its answer still to be read, and what stands before the events of a text.
use Rattle.std.specs.Prelude.{◌≡◌, ℕ, ◌+◌, ◌≤◌, List, length, Option, Some, None, Ok, Err}
use Rattle.std.specs.List.{All}
use Rattle.trace_text.specs.Heap.{IsHeap}
use Rattle.trace_text.specs.Lines.{lines_of, words_of}
use Rattle.log_text.specs.declared.event.Asked.{Asked}
use Rattle.log_text.specs.declared.fault.LogFault.{LogFault}
use Rattle.log_text.specs.declared.log.Event.{Event}
use Rattle.log_text.specs.declared.text.Start.{Start}
use Rattle.log_text.specs.Log.{IsListedGiven, IsValidAsked, beginning_of, event_at, event_of_answer}

-- Whatever its answer tells, the line with these words is an event of just that.
pub record Asks (words : List (List ℕ)) (asked : Asked) (told : List ℕ) : Type 0 where
  pub valid : IsValidAsked asked
  pub reads : (number : ℕ) (event : Event) → event_of_answer asked (words_of told) ≡ Some event → event_at number words ≡ Ok (Some event)

-- A line with these words is passed over, or asks this, and then comes its answer.
abbrev pub IsAskedLine : List (List ℕ) → Option (Asked × List ℕ) → Type 0
IsAskedLine words None = (number : ℕ) → event_at number words ≡ Ok None
IsAskedLine words (Some parts) = Asks words parts.0 parts.1

-- A line with these words is faulty, whatever its number is.
abbrev pub IsFaultyLine : List (List ℕ) → Type 0
IsFaultyLine words = (number : ℕ) → (fault : LogFault) × (event_at number words ≡ Err fault)

-- The text starts so: what is left of it are the lines of its events.
pub record IsStart (text : List ℕ) (start : Start) : Type 0 where
  pub reads : beginning_of text ≡ Ok (record { base = start.base; pages = start.pages; givens = start.givens.items; next = start.next; rest = lines_of start.rest.now })
  pub heap : IsHeap start.base start.pages
  pub givens : All IsListedGiven start.givens.items
  pub next : start.next + length start.rest.now ≤ length text + 1
