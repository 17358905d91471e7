-- How a text is read as a log, or as its fault. Lines, words, comments and the heap line are those of a trace. After the
-- heap line come the given lines, and then the events.
use Rattle.std.specs.Prelude.{◌≡◌, ℕ, ◌+◌, ◌^◌, ◌<◌, Bool, List, [], ◌∷◌, ◌++◌, length, Option, Some, None, Result, Ok, Err, nat_lt, codes, if◌then◌else◌, bytes_eq, option_and_then}
use Rattle.std.specs.Option.{ok_or, option_map}
use Rattle.std.specs.Result.{result_ok}
use Rattle.tag_memory.specs.Cells.{register_count}
use Rattle.trace_text.specs.declared.fault.LineFault.{LineFault}
use Rattle.trace_text.specs.declared.fault.LineFault.TheVariants.{BadCommand, BadCount, BadNumber}
use Rattle.trace_text.specs.declared.fault.TraceFault.{TraceFault}
use Rattle.trace_text.specs.declared.fault.TraceFault.TheVariants.{Memory, TooLong}
use Rattle.trace_text.specs.Command.{IsValid}
use Rattle.trace_text.specs.Lines.{is_passed_over, lines_of, split_at_first, words_of}
use Rattle.trace_text.specs.Reading.{◌>>=◌, command_of, data_in, fault_at, none_of, number_in, one_of, opening_from, register_in, three_of, two_of}
use Rattle.log_text.specs.declared.event.Asked.{Asked}
use Rattle.log_text.specs.declared.event.Asked.TheVariants as asked
use Rattle.log_text.specs.declared.given.Early.{Early}
use Rattle.log_text.specs.declared.given.Early.TheVariants as early
use Rattle.log_text.specs.declared.log.Event.{Event}
use Rattle.log_text.specs.declared.log.Event.TheVariants.{Done, Revoked, Seen}
use Rattle.log_text.specs.declared.log.Given.{Given}
use Rattle.log_text.specs.declared.log.Given.TheVariants.{Epoch, Granule, Live, Painted, Register, Waiting}
use Rattle.log_text.specs.declared.log.Log.{Log}
use Rattle.log_text.specs.declared.fault.LogFault.{LogFault}
use Rattle.log_text.specs.declared.fault.LogFault.TheVariants.{BadAnswer, Trace}
use Rattle.log_text.specs.ReplyText.{reply_in, bit_in}
use Rattle.log_text.specs.RevokerLines.{page_in, revoker_reply_in, untag_in}
use Rattle.revoker_steps.specs.declared.command.RevokerCommand.TheVariants.{Paint, Release, Visit}
use Rattle.revoker_steps.specs.Valid as revoker

-- The most bytes that the text of a log has.
abbrev pub longest_log : ℕ
longest_log = 16777216

-- what a fault of a trace is in a log
abbrev pub as_log_fault : {A : Type 0} → Result A TraceFault → Result A LogFault
as_log_fault (Ok x) = Ok x
as_log_fault (Err fault) = Err (Trace fault)

-- what was read of the words of the line with this number
abbrev pub on_line : {A : Type 0} → ℕ → Result A LineFault → Result A LogFault
on_line number (Ok x) = Ok x
on_line number (Err fault) = Err (Trace (fault_at number fault))

-- ---- given lines

-- a flag, or what is wrong with a word that writes none
abbrev pub tag_in : List ℕ → Result Bool LineFault
tag_in word = ok_or (bit_in word) BadNumber

-- an address, or the end of all addresses
abbrev pub top_in : List ℕ → Result ℕ LineFault
top_in word = if bytes_eq word (codes "0x10000000000000000") then Ok (2 ^ 64) else number_in word

-- the words after `given`, or what is wrong with them first
unfoldable pub given_of : List (List ℕ) → Result Given LineFault
given_of [] = Err BadCount
given_of (kind ∷ words) =
    if bytes_eq kind (codes "live") then (two_of number_in top_in words >>= λ read. Ok (Live read.0 read.1))
    else if bytes_eq kind (codes "waiting") then (two_of number_in top_in words >>= λ read. Ok (Waiting read.0 read.1))
    else if bytes_eq kind (codes "painted") then (two_of number_in top_in words >>= λ read. Ok (Painted read.0 read.1))
    else if bytes_eq kind (codes "epoch") then (none_of words >>= λ _. Ok Epoch)
    else if bytes_eq kind (codes "register") then (three_of register_in tag_in data_in words >>= λ read. Ok (Register read.0 read.1 read.2))
    else if bytes_eq kind (codes "granule") then (three_of number_in tag_in data_in words >>= λ read. Ok (Granule read.0 read.1 read.2))
    else Err BadCommand

-- what a line before the first event is
unfoldable pub early_at : ℕ → List (List ℕ) → Result Early LogFault
early_at number [] = Ok early.Passed
early_at number (name ∷ words) =
    if is_passed_over (name ∷ words) then Ok early.Passed
    else if bytes_eq name (codes "given") then (on_line number (given_of words) >>= λ given. Ok (early.Given given))
    else Ok early.Event

-- the given lines, the number of the first line after them, and the lines from there on
pub record Start : Type 0 where
  pub givens : List (ℕ × Given)
  pub next : ℕ
  pub rest : List (List ℕ)

-- what a line says, and what later lines give
abbrev pub start_with : ℕ → List (List ℕ) → Result Start LogFault → Early → Result Start LogFault
start_with number lines later early.Passed = later
start_with number lines later (early.Given given) = later >>= λ start. Ok (record { givens = (number, given) ∷ start.givens; next = start.next; rest = start.rest })
start_with number lines later early.Event = Ok (record { givens = []; next = number; rest = lines })

-- lines after the heap line up to the first event, numbered from here on
unfoldable pub givens_from : ℕ → List (List ℕ) → Result Start LogFault
givens_from number [] = Ok (record { givens = []; next = number; rest = [] })
givens_from number (line ∷ lines) =
    early_at number (words_of line) >>= start_with number (line ∷ lines) (givens_from (number + 1) lines)

-- ---- events

-- The words after a line's name are parted by the first arrow, if there is one.
abbrev pub arrow : List ℕ
arrow = codes "->"

-- those before it
abbrev pub operands_in : List (List ℕ) → Option (List (List ℕ) × List (List ℕ)) → List (List ℕ)
operands_in words None = words
operands_in words (Some parts) = parts.0

-- the name and the operands, or what is wrong with them first
unfoldable pub asked_of : List ℕ → List (List ℕ) → Result Asked LineFault
asked_of name operands =
    if bytes_eq name (codes "granule") then (one_of number_in operands >>= λ address. Ok (asked.Granule address))
    else if bytes_eq name (codes "paint") then (none_of operands >>= λ _. Ok (asked.Revoker Paint))
    else if bytes_eq name (codes "visit") then (one_of page_in operands >>= λ page. Ok (asked.Revoker (Visit page)))
    else if bytes_eq name (codes "untag") then (one_of untag_in operands >>= λ command. Ok (asked.Revoker command))
    else if bytes_eq name (codes "release") then (none_of operands >>= λ _. Ok (asked.Revoker Release))
    else (command_of (name ∷ operands) >>= λ command. Ok (asked.Command command))

-- a tag and 16 bytes
unfoldable pub content_in : List (List ℕ) → Option (Bool × List ℕ)
content_in words = result_ok (two_of tag_in data_in words)

-- the words of an answer to this
unfoldable pub event_of_answer : Asked → List (List ℕ) → Option Event
event_of_answer (asked.Granule address) words = option_map (λ content. Seen address content.0 content.1) (content_in words)
event_of_answer (asked.Command command) words = option_map (Done command) (reply_in words)
event_of_answer (asked.Revoker command) words = option_map (Revoked command) (revoker_reply_in words)

-- the words of the line with this number, and its parts: what is wrong with the operands comes before an answer that lacks
unfoldable pub event_of : ℕ → List ℕ → List (List ℕ) → Option (List (List ℕ) × List (List ℕ)) → Result Event LogFault
event_of number name words parts = do
  asked ← on_line number (asked_of name (operands_in words parts))
  ok_or (option_and_then (λ both. event_of_answer asked both.1) parts) (BadAnswer number)

-- what a line after the given lines is: nothing, an event, or a fault
unfoldable pub event_at : ℕ → List (List ℕ) → Result (Option Event) LogFault
event_at number [] = Ok None
event_at number (name ∷ words) =
    if is_passed_over (name ∷ words) then Ok None
    else (event_of number name words (split_at_first arrow words) >>= λ event. Ok (Some event))

-- the event that a line gives, with the line's number
abbrev pub listed_event : ℕ → Option Event → List (ℕ × Event)
listed_event number None = []
listed_event number (Some event) = (number, event) ∷ []

-- the line of the first of them that passes the test
abbrev pub first_line : {A : Type 0} → (A → Bool) → List (ℕ × A) → Option ℕ
first_line test [] = None
first_line test (listed_event ∷ rest) = if test listed_event.1 then Some listed_event.0 else first_line test rest

-- lines after the given lines, numbered from here on
unfoldable pub events_from : ℕ → List (List ℕ) → Result (List (ℕ × Event)) LogFault
events_from number [] = Ok []
events_from number (line ∷ lines) = do
  event ← event_at number (words_of line)
  events ← events_from (number + 1) lines
  Ok (listed_event number event ++ events)

-- ---- texts

-- what a log says
pub record Record : Type 0 where
  pub base : ℕ
  pub pages : ℕ
  pub givens : List (ℕ × Given)
  pub events : List (ℕ × Event)

-- a log without where it lies in memory
abbrev pub record_of : Log → Record
record_of log = record { base = log.base; pages = log.pages; givens = log.givens.items; events = log.events.items }

-- what stands before a text's events: its heap, the given lines, the number of the first line after them, and the lines from there on
pub record Beginning : Type 0 where
  pub base : ℕ
  pub pages : ℕ
  pub givens : List (ℕ × Given)
  pub next : ℕ
  pub rest : List (List ℕ)

-- the beginning of a text, or the first fault before its first event
unfoldable pub beginning_of : List ℕ → Result Beginning LogFault
beginning_of text =
    if nat_lt longest_log (length text) then Err (Trace TooLong)
    else (as_log_fault (opening_from 1 (lines_of text)) >>= λ o. givens_from o.next o.rest >>= λ s.
    Ok (record { base = o.base; pages = o.pages; givens = s.givens; next = s.next; rest = s.rest }))

-- the log that a text is, or its fault
unfoldable pub log_of : List ℕ → Result Record LogFault
log_of text =
    beginning_of text >>= λ b. events_from b.next b.rest >>= λ events.
    Ok (record { base = b.base; pages = b.pages; givens = b.givens; events = events })

-- ---- what holds of all that is read

-- a register that is given is one
abbrev pub IsValidGiven : Given → Type 0
IsValidGiven (Register register tag bytes) = register < register_count
IsValidGiven given = Unit {0}

abbrev pub IsValidEarly : Early → Type 0
IsValidEarly (early.Given given) = IsValidGiven given
IsValidEarly line = Unit {0}

abbrev pub IsListedGiven : ℕ × Given → Type 0
IsListedGiven listed_event = (listed_event.0 < 2 ^ 32) × IsValidGiven listed_event.1

-- the registers of a command are registers
abbrev pub IsValidAsked : Asked → Type 0
IsValidAsked (asked.Command command) = IsValid command
IsValidAsked (asked.Revoker command) = revoker.IsValid command
IsValidAsked asked = Unit {0}

abbrev pub IsValidEvent : Event → Type 0
IsValidEvent (Done command answer) = IsValid command
IsValidEvent (Revoked command answer) = revoker.IsValid command
IsValidEvent event = Unit {0}

abbrev pub IsListedEvent : ℕ × Event → Type 0
IsListedEvent listed_event = (listed_event.0 < 2 ^ 32) × IsValidEvent listed_event.1

-- ---- calls

-- a call answered the fault that is read, or that memory ran out
abbrev pub Fails : {Y : Type 0} → LogFault → Result Y LogFault → Type 0
Fails (Trace Memory) read = Unit {0}
Fails fault read = read ≡ Err fault

-- a call answered what is read, as this view shows it, or that memory ran out
abbrev pub Gives : {X Y : Type 0} → (X → Y) → Result X LogFault → Result Y LogFault → Type 0
Gives view (Ok x) read = read ≡ Ok (view x)
Gives view (Err fault) read = Fails fault read
