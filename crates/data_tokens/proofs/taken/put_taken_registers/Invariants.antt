use Rattle.std.proofs.Common.{◌≡◌, ◌&&◌}
use Rattle.data_tokens.specs.Changes.{below}
use Rattle.data_tokens.specs.Line.{with_tokens}
use Rattle.data_tokens.specs.Spans.{spans_of}
use Rattle.data_tokens.specs.Taken.{is_register_taken, number_if}
use Rattle.data_tokens.proofs.taken.put_taken_registers.Given as goal

abbrev pub invariant-loop-r : goal.invariant-loop-r
invariant-loop-r l = l.line ≡ with_tokens l.fn.line (below (number_if (λ k. l.looked && is_register_taken (spans_of l.due) l.registers k)) l.r)
