use Rattle.std.proofs.Common.{◌≡◌, ◌+◌, ◌*◌}
use Rattle.data_tokens.specs.Changes.{below, tag_change}
use Rattle.data_tokens.specs.Line.{LineState, with_tokens}
use Rattle.data_tokens.proofs.granules.put_tags_of_word.Given as goal

abbrev pub invariant-loop-j : goal.invariant-loop-j
invariant-loop-j l =
    (start : LineState) → l.fn.line ≡ with_tokens start (below (tag_change l.tags l.memory.granules) (64 * l.w))
    → l.line ≡ with_tokens start (below (tag_change l.tags l.memory.granules) (64 * l.w + l.j))
