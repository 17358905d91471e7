use Rattle.std.proofs.Common.{rules, ◌≡◌, ◌∙◌, ap, ◌++◌, Ok}
use Rattle.log_text.specs.Log.{Record, log_of}
use Rattle.log_notes.specs.Hint.{IsHint}
use Rattle.log_notes.specs.Notes.{of_fault, of_part}
use Rattle.log_notes.proofs.notes.notes_of.Goals as goal

pub returns-then-status-ne-FAULTY : goal.returns-then-status-ne-FAULTY
returns-then-status-ne-FAULTY c = rw c.in_ok-part.ensures (of_part c.args.status (λ e. absurd (c.if-status-ne-FAULTY.true e)))

pub returns-in_ok-extend_from_slice-in-Some : goal.returns-in_ok-extend_from_slice-in-Some
returns-in_ok-extend_from_slice-in-Some c =
    let faulty : c.args.status ≡ 3 = search rules in
    let is : IsHint c.args.log.now c.in-Some.text.items = search rules in
    rw (faulty, c.in_ok-extend_from_slice-in-Some.ensures.items ∙ ap (λ part. c.in-Some.text.items ++ part) (c.deref.ensures.value ∙ c.in_ok-part.ensures)) (of_fault c.in-Some.text.items is)

pub returns-in-None : goal.returns-in-None
returns-in-None c =
    let read : (read : Record) × (log_of c.args.log.now ≡ Ok read) = search rules in
    rw c.in_ok-part.ensures (of_part c.args.status (λ e. read))
