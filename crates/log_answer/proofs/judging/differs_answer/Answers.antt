use Rattle.std.proofs.Common.{ℕ, ◌∙◌, ◌++◌, ap, rules}
use Rattle.log_text.specs.declared.log.Event.{Event}
use Rattle.log_text.specs.Log.{record_of}
use Rattle.log_answer.specs.Answer.{due_shown, first_of, miscounts}
use Rattle.log_answer.proofs.JudgedLaws.{IsJudged-differs, before_it, event_there}
use Rattle.log_answer.proofs.judging.differs_answer.Goals as goal

pub origin_of-requires-clause-follow : goal.origin_of-requires-clause-follow
origin_of-requires-clause-follow g c = rw c.deref.ensures.value
    (c.args.machine.now.state, before_it (first_of (record_of c.args.log.now)) c.args.log.now.events.items c.args.line c.args.count c.args.difference c.args.machine.now.state c.requires.differs)

pub returns : goal.returns
returns g c =
    let log = record_of c.args.log.now in
    let at = c.requires.differs in
    let event = event_there (first_of log) log.events c.args.line c.args.count c.args.difference c.args.machine.now.state at c.index.result.now in
    let from = rw c.deref.ensures.value at c.in_ok-from.ensures in
    let shown = c.in_ok-push_due_shown.ensures ∙ ap (λ items. items ++ due_shown (miscounts c.index.result.now.1 c.args.difference) c.args.machine.now.state)
    (ap (λ vec. vec.items) c.into_bytes-text.ensures.value ∙ c.in_ok-first.ensures) in
    IsJudged-differs log c.args.line c.args.count c.args.difference c.in_ok-from.from c.args.machine.now.state c.index.result.now.1 c.is_open.result c.push_due_shown.new.text.items
    c.requires.safe at from (ap (λ (e : ℕ × Event). e.1) c.index.ensures ∙ event) (search rules) shown
