use Rattle.std.proofs.Common.{◌≡◌, codes, filter, not, take}
use Rattle.heap_model.specs.Blocks.{has_bounds}
use Rattle.data_tokens.specs.Blocks.{named_blocks_tokens}
use Rattle.data_tokens.specs.Line.{with_tokens}
use Rattle.data_tokens.specs.Spans.{spans_of}
use Rattle.state_data.proofs.writing.put_ended.Given as goal

abbrev pub invariant-loop-block : goal.invariant-loop-block
invariant-loop-block l = l.line ≡ with_tokens l.fn.line (named_blocks_tokens (codes "free") (filter (λ block. not (has_bounds l.base l.top block)) (spans_of (take l.block-index l.due))))
