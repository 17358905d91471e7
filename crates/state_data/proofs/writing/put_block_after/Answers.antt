use Rattle.std.proofs.Common.{◌-◌, ◌++◌, codes, filter, not, sym}
use Rattle.heap_model.specs.Blocks.{has_bounds}
use Rattle.data_tokens.specs.Blocks.{named_blocks_tokens}
use Rattle.data_tokens.specs.Spans.{spans_of}
use Rattle.state_data.proofs.BlockLaws.{told_one}
use Rattle.data_tokens.specs.LineLaws.{added_two}
use Rattle.state_data.proofs.writing.put_block_after.Goals as goal

pub returns : goal.returns
returns c =
    added_two _ _ _ _ _ _ _ c.in_ok-put_ended.ensures c.put_span.ensures
    (λ i. named_blocks_tokens (codes "free") (filter (λ block. not (has_bounds c.args.base c.args.top block)) (spans_of c.args.due.now)) ++ sym (told_one (codes "live") (c.args.base, c.args.top - c.args.base)) i)
