use Rattle.std.proofs.Common.{◌∙◌, sym}
use Rattle.log_notes.specs.Part.{IsPartTold, bare_line, lacks_memory, told}
use Rattle.check_command.proofs.BesideLaws.{said_by, said_nothing}
use Rattle.check_command.proofs.part.say_part.Goals as goal

pub returns-in_default-clause-said : goal.returns-in_default-clause-said
returns-in_default-clause-said g c = said_nothing c.args.log.now _ _ (sym c.in_default.ensures)

pub returns-in-Ok-clause-said : goal.returns-in-Ok-clause-said
returns-in-Ok-clause-said g c =
    let is : IsPartTold c.args.log.now c.deref.result.now = rw (c.deref.ensures.value ∙ c.in-Ok.ensures) (told c.in-Some.comment.now (sym c.in-Some.ensures)) in
    said_by (IsPartTold c.args.log.now) c.deref.result.now is c.send.result _ _ _ _ c.send.ensures.ok c.send.ensures.err c.send.ensures.fails c.requires

pub returns-in-Err-clause-said : goal.returns-in-Err-clause-said
returns-in-Err-clause-said g c =
    said_by (IsPartTold c.args.log.now) bare_line (lacks_memory c.in-Some.comment.now (sym c.in-Some.ensures)) c.send-in-Err.result _ _ _ _
    c.send-in-Err.ensures.ok c.send-in-Err.ensures.err c.send-in-Err.ensures.fails c.requires
