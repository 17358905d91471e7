use Rattle.std.proofs.Common.{◌≡◌, ◌-◌, arith}
use Rattle.data_tokens.specs.Blocks.{block_tokens}
use Rattle.data_tokens.specs.LineLaws.{added_as}
use Rattle.data_tokens.proofs.blocks.put_block.Goals as goal

pub returns : goal.returns
returns c =
    let length : c.top.result - c.args.block.base ≡ c.args.block.length = omega (arith, c.top.ensures) in
    added_as _ _ _ _ _ c.put_span.ensures (λ i. block_tokens c.args.state.now (c.args.block.base, length i))
