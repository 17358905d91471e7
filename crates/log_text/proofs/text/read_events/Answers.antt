use Rattle.std.proofs.Common.{◌≡◌, ◌<◌, ◌≤◌, ◌^◌, length, ◌++◌, ◌∙◌, ℕ, [], Option, Some, None, IfSome, All, sym, ap, arith}
use Rattle.std.proofs.lemmas.List.{append-nil, length-append}
use Rattle.std.proofs.lemmas.List.Elements.{All-append, All-cons, All-nil}
use Rattle.std.proofs.lemmas.Result.{err_from_is_err_and}
use Rattle.log_text.specs.declared.log.Event.{Event}
use Rattle.log_text.specs.Log.{IsListedEvent, IsValidEvent, listed_event}
use Rattle.log_text.proofs.Texts.{events_end, events_go_on, events_stop}
use Rattle.log_text.proofs.text.read_events.Goals as goal
use Rattle.log_text.proofs.text.read_events.Goals.{in-Some-2+in_ok-push, in_default-2}

pub returns-in_err-event-clause-value : goal.returns-in_err-event-clause-value
returns-in_err-event-clause-value c =
    let p = err_from_is_err_and c.from_residual.result c.from_residual.ensures.1 in
    rw (p.1, p.2) (events_stop c.loop-line.list.items c.loop-line.number c.in_err-event.field-0.0 c.loop-line.rest.now c.in-Some.line c.in-Some.after.now _
    c.in-Some.ensures.line c.in_err-event.ensures.value c.loop-line.invariant.told)

All-listed : (number : ℕ) (event : Option Event) → number < 2 ^ 32 → IfSome event IsValidEvent → All IsListedEvent (listed_event number event)
All-listed number None small valid = All-nil IsListedEvent
All-listed number (Some event) small valid = All-cons IsListedEvent (number, event) [] (small, valid) (All-nil IsListedEvent)

length-listed : (number : ℕ) (event : Option Event) → length (listed_event number event) ≤ 1
length-listed number None = omega arith
length-listed number (Some event) = omega arith

pub loop-line-preserved : goal.loop-line-preserved
loop-line-preserved c =
    let items = c.loop-line.list.items in
    let number = c.loop-line.number in
    let read = c.in_ok-event.field-0 in
    let more : c.match-branch-2.list.items ≡ items ++ listed_event number read = elim c.match-branch-2.branch [
      | in-Some-2+in_ok-push w ↦ ap (λ list. list.items) w.list-is ∙ w.in_ok-push.ensures.items ∙ ap (λ x. items ++ listed_event number x) (sym w.in-Some-2.is)
      | in_default-2 w ↦ ap (λ list. list.items) w.list-is ∙ sym (append-nil items) ∙ ap (λ x. items ++ listed_event number x) (sym w.in_default-2.is)
    ] in
    let valid : All IsListedEvent (listed_event number read) = All-listed number read (omega arith) c.in_ok-event.ensures.valid in
    record {
      valid = rw more (All-append IsListedEvent items (listed_event number read) c.loop-line.invariant.valid valid);
      few = rw more (omega (arith, c.loop-line.invariant.few, length-append items (listed_event number read), length-listed number read));
      number = omega (arith, c.in-Some.ensures.shorter);
      told = rw more (events_go_on items number c.loop-line.rest.now c.in-Some.line c.in-Some.after.now read _
          c.in-Some.ensures.line c.in_ok-event.ensures.value c.loop-line.invariant.told);
    }

pub returns-clause-value : goal.returns-clause-value
returns-clause-value c = events_end c.loop-line.list.items c.loop-line.number c.loop-line.rest.now _ c.in_default.ensures.end c.loop-line.invariant.told
