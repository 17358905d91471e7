-- Lines that agree, one after another.
use Rattle.std.proofs.Common.{◌≡◌, ℕ, ◌+◌, List, [], ◌∷◌, ◌++◌, Option, None, Some, Result, Ok, Err, refl, sym, ap, subst, ◌∙◌, append_assoc, IfSome, bytes_eq, true}
use Rattle.std.specs.Option.{option_map}
use Rattle.std.proofs.lemmas.List.{append-nil}
use Rattle.std.proofs.lemmas.Slice.Eq.{bytes_eq-Decides}
use Rattle.trace_text.specs.declared.trace.Command.{Command}
use Rattle.trace_text.specs.Lines.{lines_of, words_of}
use Rattle.trace_text.specs.Reading.{◌>>=◌}
use Rattle.heap_reply.specs.declared.reply.Reply.{Reply}
use Rattle.heap_reply.specs.ReplyText.{text_of_reply}
use Rattle.log_text.specs.declared.event.Asked.{Asked}
use Rattle.log_text.specs.declared.event.Asked.TheVariants as asked
use Rattle.log_text.specs.declared.fault.LogFault.{LogFault}
use Rattle.log_text.specs.declared.log.Event.{Event}
use Rattle.log_text.specs.declared.log.Event.TheVariants.{Done}
use Rattle.log_text.specs.ReplyText.{FitsReply, IsReplyText, reply_in}
use Rattle.log_text.specs.declared.log.Given.{Given}
use Rattle.log_text.specs.declared.text.Start.{Start}
use Rattle.log_text.specs.Asking.{Asks, IsStart}
use Rattle.given_state.specs.Given.{AreSafe, given_state}
use Rattle.log_text.specs.Log.{Record, event_at, events_from, listed_event, log_of, event_of_answer}
use Rattle.machine_steps.specs.Follow.{Follows}
use Rattle.machine_steps.specs.State.{State}
use Rattle.heap_log.specs.declared.verdict.Tally.{Tally}
use Rattle.heap_log.specs.Judged.{AllFollow, EventFollows, tally_of}
use Rattle.agreed_log.specs.Agreed.{HaveAgreed, IsAgreed, IsAgreedLine, IsAnsweredEvent, LineFollows, after_events}
use Rattle.heap_log.specs.Counting.{tally_with, tally_with_event}
use Rattle.heap_log.specs.CountingLaws.{tally_push}

-- ---- a line

-- A blank before a text adds no word.
pub words_after_blank : (text : List ℕ) → words_of (32 ∷ text) ≡ words_of text
words_after_blank text = refl

-- A blank and a reply's text have its words.
pub IsReplyText-told : (bytes text : List ℕ) (reply : Reply) → FitsReply reply → text ≡ 32 ∷ (text_of_reply reply ++ []) → bytes_eq bytes text ≡ true → IsReplyText (words_of bytes) reply
IsReplyText-told bytes text reply fits is same =
    let whole : bytes ≡ 32 ∷ text_of_reply reply = (bytes_eq-Decides bytes text).0 same ∙ is ∙ ap (λ bs. 32 ∷ bs) (append-nil (text_of_reply reply)) in
    (fits, ap words_of whole ∙ words_after_blank (text_of_reply reply))

pub told_of-command : (command : Command) (words : List (List ℕ)) (reply : Reply) → reply_in words ≡ Some reply → event_of_answer (asked.Command command) words ≡ Some (Done command reply)
unfolding event_of_answer
told_of-command command words reply is = ap (option_map (Done command)) is

pub IsAnsweredEvent-command : (command : Command) (told : List ℕ) (reply : Reply) (old new : State) (before after : Tally) → reply_in (words_of told) ≡ Some reply
    → Follows old command reply new → after ≡ tally_with before reply → IsAnsweredEvent (asked.Command command) told old new before after
IsAnsweredEvent-command command told reply old new before after is follows counts = record {
  event = Done command reply;
  reads = told_of-command command (words_of told) reply is;
  follows = follows;
  tally_is = counts;
}

pub IsAgreedLine-told : {A : Type 0} (line : List ℕ) (asked : Asked) (told : List ℕ) (old new : State) (before after : Tally) (r : Option A) → Asks (words_of line) asked told
    → IfSome r (λ done. IsAnsweredEvent asked told old new before after) → IfSome r (λ done. IsAgreedLine line old new before after)
IsAgreedLine-told line asked told old new before after (Some done) asks is = record {
  event = Some is.event;
  reads = λ number. asks.reads number is.event is.reads;
  follows = (is.follows, is.tally_is);
}
IsAgreedLine-told line asked told old new before after None asks is = tt

-- ---- lines

AllFollow-push : (old : State) (events : List (ℕ × Event)) (mid : State) (number : ℕ) (event : Event) (new : State)
    → AllFollow old events mid → EventFollows mid event new → AllFollow old (events ++ (number, event) ∷ []) new
AllFollow-push old [] mid number event new all step = (new, subst (λ (s : State). EventFollows s event new) all step, refl)
AllFollow-push old (first ∷ events) mid number event new all step = (all.0, all.1, AllFollow-push all.0 events mid number event new all.2 step)

after_none : (later : Result (List (ℕ × Event)) LogFault) → later ≡ after_events [] later
after_none (Ok list) = refl
after_none (Err fault) = refl

pub HaveAgreed-none : (first : ℕ) (lines : List (List ℕ)) (old : State) (tally : Tally) → tally ≡ tally_of [] → HaveAgreed first lines first lines old old tally
HaveAgreed-none first lines old tally none = record {
  events = [];
  reads = after_none (events_from first lines);
  follow = refl;
  tally_is = none;
}

regroup : (events : List (ℕ × Event)) (number : ℕ) (event : Option Event) (later : Result (List (ℕ × Event)) LogFault)
    → after_events events (later >>= λ list. Ok (listed_event number event ++ list)) ≡ after_events (events ++ listed_event number event) later
regroup events number event (Ok list) = ap Ok (sym (append_assoc events (listed_event number event) list))
regroup events number event (Err fault) = refl

-- what is read of a line and those after it
events_step : (events : List (ℕ × Event)) (number : ℕ) (rest line after : List ℕ) (event : Option Event) → lines_of rest ≡ line ∷ lines_of after
    → event_at number (words_of line) ≡ Ok event → after_events events (events_from number (lines_of rest)) ≡ after_events (events ++ listed_event number event) (events_from (number + 1) (lines_of after))
unfolding events_from
events_step events number rest line after event cut is =
    let later = events_from (number + 1) (lines_of after) in
    ap (λ lines. after_events events (events_from number lines)) cut
    ∙ ap (λ read. after_events events (read >>= λ one. later >>= λ list. Ok (listed_event number one ++ list))) is
    ∙ regroup events number event later

follow_one : (old : State) (events : List (ℕ × Event)) (mid : State) (number : ℕ) (event : Option Event) (new : State) (before after : Tally)
    → AllFollow old events mid → LineFollows event mid new before after → AllFollow old (events ++ listed_event number event) new
follow_one old events mid number None new before after all follows =
    subst (λ (xs : List (ℕ × Event)). AllFollow old xs new) (sym (append-nil events)) (subst (AllFollow old events) (sym follows.0) all)
follow_one old events mid number (Some event) new before after all follows = AllFollow-push old events mid number event new all follows.0

count_one : (events : List (ℕ × Event)) (mid : State) (number : ℕ) (event : Option Event) (new : State) (before after : Tally)
    → before ≡ tally_of events → LineFollows event mid new before after → after ≡ tally_of (events ++ listed_event number event)
count_one events mid number None new before after is follows = follows.1 ∙ is ∙ ap tally_of (sym (append-nil events))
count_one events mid number (Some event) new before after is follows = follows.1 ∙ ap (λ t. tally_with_event t event) is ∙ tally_push events number event

pub HaveAgreed-more : (first : ℕ) (lines : List (List ℕ)) (number : ℕ) (rest line after : List ℕ) (old mid new : State) (before tally : Tally)
    → HaveAgreed first lines number (lines_of rest) old mid before → lines_of rest ≡ line ∷ lines_of after → IsAgreedLine line mid new before tally
    → HaveAgreed first lines (number + 1) (lines_of after) old new tally
HaveAgreed-more first lines number rest line after old mid new before tally so_far cut is = record {
  events = so_far.events ++ listed_event number is.event;
  reads = so_far.reads ∙ events_step so_far.events number rest line after is.event cut (is.reads number);
  follow = follow_one old so_far.events mid number is.event new before tally so_far.follow is.follows;
  tally_is = count_one so_far.events mid number is.event new before tally so_far.tally_is is.follows;
}

-- All lines were read.
pub HaveAgreed-all : (first : ℕ) (lines : List (List ℕ)) (next : ℕ) (old new : State) (tally : Tally) (so_far : HaveAgreed first lines next [] old new tally)
    → events_from first lines ≡ Ok so_far.events
unfolding events_from
HaveAgreed-all first lines next old new tally so_far = so_far.reads ∙ ap Ok (append-nil so_far.events)

-- The log of a text that starts so, whose events are read.
log_of-start : (text : List ℕ) (start : Start) (events : List (ℕ × Event)) → IsStart text start → events_from start.next (lines_of start.rest.now) ≡ Ok events
    → log_of text ≡ Ok (record { base = start.base; pages = start.pages; givens = start.givens.items; events = events })
unfolding log_of
log_of-start text start events is read = rw (is.reads, read) refl

-- A text whose given lines are these, and whose other lines have events that follow.
pub IsAgreed-start : (text : List ℕ) (start : Start) (givens : List (ℕ × Given)) (first last : State) (tally : Tally) → IsStart text start → givens ≡ start.givens.items
    → first ≡ given_state start.base start.pages givens → AreSafe start.base start.pages givens
    → (next : ℕ) × HaveAgreed start.next (lines_of start.rest.now) next [] first last tally → IsAgreed text tally
IsAgreed-start text start givens first last tally is same told safe all =
    let events = all.1.events in
    let log : Record = record { base = start.base; pages = start.pages; givens = start.givens.items; events = events } in
    let state : first ≡ given_state log.base log.pages log.givens = told ∙ ap (given_state start.base start.pages) same in
    record {
      log = log;
      reads = log_of-start text start events is (HaveAgreed-all start.next (lines_of start.rest.now) all.0 first last tally all.1);
      safe = subst (AreSafe start.base start.pages) same safe;
      last = last;
      follow = subst (λ (s : State). AllFollow s events last) state all.1.follow;
      tally_is = all.1.tally_is;
    }
