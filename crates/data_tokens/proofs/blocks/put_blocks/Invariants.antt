use Rattle.std.proofs.Common.{◌≡◌, take}
use Rattle.data_tokens.specs.Blocks.{named_blocks_tokens}
use Rattle.data_tokens.specs.Line.{with_tokens}
use Rattle.data_tokens.specs.Spans.{spans_of}
use Rattle.data_tokens.proofs.blocks.put_blocks.Given as goal

abbrev pub invariant-loop-block : goal.invariant-loop-block
invariant-loop-block l = l.line ≡ with_tokens l.fn.line (named_blocks_tokens l.state (spans_of (take l.block-index l.blocks)))
