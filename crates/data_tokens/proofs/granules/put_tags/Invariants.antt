use Rattle.std.proofs.Common.{◌≡◌, ◌*◌}
use Rattle.data_tokens.specs.Changes.{below, tag_change}
use Rattle.data_tokens.specs.Line.{with_tokens}
use Rattle.data_tokens.proofs.granules.put_tags.Given as goal

abbrev pub invariant-loop-w : goal.invariant-loop-w
invariant-loop-w l = l.line ≡ with_tokens l.fn.line (below (tag_change l.tags l.memory.granules) (64 * l.w))
