use Rattle.std.proofs.Common.{◌≡◌, ◌*◌}
use Rattle.data_tokens.specs.Changes.{below}
use Rattle.data_tokens.specs.Line.{with_tokens}
use Rattle.data_tokens.specs.Taken.{is_tag_gone, number_if}
use Rattle.data_tokens.proofs.taken.put_taken_granules.Given as goal

abbrev pub invariant-loop-w : goal.invariant-loop-w
invariant-loop-w l = l.line ≡ with_tokens l.fn.line (below (number_if (is_tag_gone l.tags l.memory.granules)) (64 * l.w))
