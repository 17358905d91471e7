use Rattle.std.proofs.Common.{◌≡◌, ◌++◌, take}
use Rattle.std.specs.Prelude.{flat_map}
use Rattle.log_answer.specs.Text.{due_line}
use Rattle.log_answer.proofs.due_lines.push_lines.Given as goal

abbrev pub invariant-loop-word : goal.invariant-loop-word
invariant-loop-word l = l.text.items ≡ l.fn.text.items ++ flat_map due_line (take l.word-index l.words)
