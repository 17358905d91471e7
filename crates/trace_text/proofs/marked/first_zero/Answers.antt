use Rattle.std.proofs.Common.{ap, ◌∙◌, arith}
use Rattle.tag_memory.specs.Laws.{clear_from_not, is_set_zero, set_from_not}
use Rattle.tag_memory.specs.Tags.{is_set}
use Rattle.trace_text.proofs.marked.first_zero.Goals as goal

pub returns-then-zeros-eq0-clause-before : goal.returns-then-zeros-eq0-clause-before
returns-then-zeros-eq0-clause-before c =
    λ j lt. set_from_not c.args.mask j c.ranges.mask.fits lt (ap (λ zeros. is_set zeros j) c.if-zeros-eq0.true ∙ is_set_zero j)

pub returns-else-zeros-eq0-clause-before : goal.returns-else-zeros-eq0-clause-before
returns-else-zeros-eq0-clause-before c =
    λ j lt. set_from_not c.args.mask j c.ranges.mask.fits (omega (arith, lt, c.lowest_bit.ensures.within)) (c.lowest_bit.ensures.below j lt)

pub returns-else-zeros-eq0-clause-here : goal.returns-else-zeros-eq0-clause-here
returns-else-zeros-eq0-clause-here c = λ lt. clear_from_not c.args.mask c.lowest_bit.result c.ranges.mask.fits lt c.lowest_bit.ensures.one
