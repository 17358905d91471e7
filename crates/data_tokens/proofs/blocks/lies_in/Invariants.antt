use Rattle.std.proofs.Common.{◌≡◌, false, take}
use Rattle.heap_model.specs.Blocks.{lies_in}
use Rattle.data_tokens.specs.Spans.{spans_of}
use Rattle.data_tokens.proofs.blocks.lies_in.Given as goal

abbrev pub invariant-loop-block : goal.invariant-loop-block
invariant-loop-block l = lies_in (spans_of (take l.block-index l.blocks)) l.address ≡ false
