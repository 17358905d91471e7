use Rattle.std.proofs.Common.{◌∙◌, ap, ◌++◌}
use Rattle.log_answer.proofs.DueLaws.{due_text-whole}
use Rattle.log_answer.proofs.due_lines.push_due.Goals as goal

pub returns : goal.returns
returns c =
    due_text-whole c.args.text.now.items c.push_lines.new.text.items c.extend_from_slice.new.self.items c.args.words.now c.min-told.result c.min-told.ensures
    c.in_ok-push_lines.ensures
    (c.in_ok-extend_from_slice.ensures.items ∙ ap (λ last. c.push_lines.new.text.items ++ last) (c.as_bytes.ensures.value ∙ c.in_ok-last.ensures.ok))
