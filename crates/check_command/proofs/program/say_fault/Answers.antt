use Rattle.std.proofs.Common.{rules}
use Rattle.log_notes.specs.Hint.{IsHint}
use Rattle.check_command.proofs.BesideLaws.{said_part, said_begun, said_twice}
use Rattle.check_command.proofs.program.say_fault.Goals as goal

pub returns-in_default : goal.returns-in_default
returns-in_default g c = said_part c.args.log.now 3 _ _ _ c.say_part.ensures.said

pub returns-in-Ok : goal.returns-in-Ok
returns-in-Ok g c =
    let is : IsHint c.args.log.now c.in-Ok-Some.text.items = search rules in
    let first = rw c.deref.ensures.value at c.in-Ok.ensures.ok in
    said_twice c.args.log.now c.in-Ok-Some.text.items _ _ (g.E.Sink.contents c.send.new.writer) _ is first c.say_part-in-Ok.ensures.said

pub returns : goal.returns
returns g c =
    let is : IsHint c.args.log.now c.in-Ok-Some.text.items = search rules in
    let first = rw c.deref.ensures.value at c.in-Err.ensures.err in
    said_begun c.args.log.now c.in-Ok-Some.text.items _ _ _ is first (search rules)
