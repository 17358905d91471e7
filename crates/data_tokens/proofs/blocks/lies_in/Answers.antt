use Rattle.std.proofs.Common.{◌∙◌, ap, sym, arith}
use Rattle.std.proofs.Math.ListN.{get_or-map}
use Rattle.std.proofs.lemmas.List.{length-map}
use Rattle.std.proofs.lemmas.List.Folds.{list_any_at}
use Rattle.heap_model.specs.Blocks.{has_address}
use Rattle.data_tokens.specs.declared.blocks.HeldBlock.{HeldBlock}
use Rattle.data_tokens.specs.Spans.{span_of, spans_of}
use Rattle.data_tokens.proofs.blocks.lies_in.Goals as goal

pub returns-then-has : goal.returns-then-has
returns-then-has c =
    let blocks = c.args.blocks.now in
    let none : HeldBlock = record { base = 0; length = 0 } in
    let i = c.loop-block.block-index in
    sym (list_any_at (has_address c.args.address) (spans_of blocks) i (span_of none) (omega (arith, c.loop-block-test.true, length-map blocks span_of))
    (ap (has_address c.args.address) (get_or-map span_of blocks i none) ∙ (sym c.has.ensures ∙ c.if-has.true)))
