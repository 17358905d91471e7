use Rattle.std.proofs.Common.{◌≡◌, ◌+◌, ◌*◌}
use Rattle.data_tokens.specs.Changes.{below}
use Rattle.data_tokens.specs.Line.{LineState, with_tokens}
use Rattle.data_tokens.specs.Taken.{is_tag_gone, number_if}
use Rattle.data_tokens.proofs.taken.put_gone_of_word.Given as goal

abbrev pub invariant-loop-j : goal.invariant-loop-j
invariant-loop-j l =
    (start : LineState) → l.fn.line ≡ with_tokens start (below (number_if (is_tag_gone l.tags l.memory.granules)) (64 * l.w))
    → l.line ≡ with_tokens start (below (number_if (is_tag_gone l.tags l.memory.granules)) (64 * l.w + l.j))
