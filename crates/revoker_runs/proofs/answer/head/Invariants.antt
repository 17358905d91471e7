use Rattle.std.proofs.Common.{◌≡◌, ◌++◌, ◌-◌}
use Rattle.trace_text.specs.Lines.{lines_of}
use Rattle.revoker_runs.specs.Answer.{first_lines, head_text}
use Rattle.revoker_runs.proofs.answer.head.Given as goal

abbrev pub invariant-loop : goal.invariant-loop
invariant-loop l = l.head.items ++ first_lines (l.next - l.counter) (lines_of l.rest) ≡ head_text l.text l.next
