use Rattle.std.proofs.Common.{◌≡◌, ◌<◌, ◌^◌, ◌++◌, ◌∙◌, ℕ, [], Option, Some, None, IfSome, All, sym, ap, arith}
use Rattle.std.proofs.lemmas.List.{append-nil}
use Rattle.std.proofs.lemmas.List.Elements.{All-append, All-cons, All-nil}
use Rattle.std.proofs.lemmas.Result.{err_from_is_err_and}
use Rattle.trace_text.specs.declared.trace.Command.{Command}
use Rattle.trace_text.specs.Command.{IsListed, IsValid}
use Rattle.trace_text.specs.Reading.{listed_command}
use Rattle.trace_text.proofs.Reading.{commands_go_on, commands_stop, commands_end}
use Rattle.trace_text.proofs.text.read_commands.Goals as goal
use Rattle.trace_text.proofs.text.read_commands.Goals.{in-Some-2+in_ok-push, in_default-2}

pub returns-in_err-command-clause-value : goal.returns-in_err-command-clause-value
returns-in_err-command-clause-value c =
    let p = err_from_is_err_and c.from_residual.result c.from_residual.ensures.1 in
    rw (p.1, p.2) (commands_stop c.loop-line.list.items c.loop-line.number c.in_err-command.field-0.0 c.loop-line.rest.now c.in-Some.line c.in-Some.after.now _
    c.in-Some.ensures.line c.in_err-command.ensures.value c.loop-line.invariant.told)

All-listed : (number : ℕ) (command : Option Command) → number < 2 ^ 32 → IfSome command IsValid → All IsListed (listed_command number command)
All-listed number None small valid = All-nil IsListed
All-listed number (Some command) small valid = All-cons IsListed (number, command) [] (small, valid) (All-nil IsListed)

pub loop-line-preserved : goal.loop-line-preserved
loop-line-preserved c =
    let items = c.loop-line.list.items in
    let number = c.loop-line.number in
    let read = c.in_ok-command.field-0 in
    let more : c.match-branch-2.list.items ≡ items ++ listed_command number read = elim c.match-branch-2.branch [
      | in-Some-2+in_ok-push w ↦ ap (λ list. list.items) w.list-is ∙ w.in_ok-push.ensures.items ∙ ap (λ x. items ++ listed_command number x) (sym w.in-Some-2.is)
      | in_default-2 w ↦ ap (λ list. list.items) w.list-is ∙ sym (append-nil items) ∙ ap (λ x. items ++ listed_command number x) (sym w.in_default-2.is)
    ] in
    let valid : All IsListed (listed_command number read) = All-listed number read (omega arith) c.in_ok-command.ensures.valid in
    record {
      valid = rw more (All-append IsListed items (listed_command number read) c.loop-line.invariant.valid valid);
      number = omega (arith, c.in-Some.ensures.shorter);
      told = rw more (commands_go_on items number c.loop-line.rest.now c.in-Some.line c.in-Some.after.now read _
          c.in-Some.ensures.line c.in_ok-command.ensures.value c.loop-line.invariant.told);
    }

pub returns-clause-value : goal.returns-clause-value
returns-clause-value c = commands_end c.loop-line.list.items c.loop-line.number c.loop-line.rest.now _ c.in_default.ensures.end c.loop-line.invariant.told
