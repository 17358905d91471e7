use Rattle.std.proofs.Common.{◌∙◌, ap, sym}
use Rattle.log_notes.specs.Part.{comment_in, last_line}
use Rattle.log_notes.proofs.LastLine.{last_of-lines}
use Rattle.log_notes.proofs.part.part_comment.Goals as goal

pub returns : goal.returns
unfolding last_line
returns c =
    let part = c.last_start-start.ensures in
    c.comment_in.ensures ∙ sym (ap comment_in
    (last_of-lines c.args.log.now c.last_start-start.result c.last_end-end.result part.within c.last_end-end.ensures.within part.line part.feed
    c.last_end-end.ensures.feed c.last_end-end.ensures.none))
