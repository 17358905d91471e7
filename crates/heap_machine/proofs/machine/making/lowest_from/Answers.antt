use Rattle.std.proofs.Common.{◌∙◌, ◌+◌, ◌-◌, ap, sym, arith}
use Rattle.tag_memory.specs.Laws.{is_set_zero}
use Rattle.tag_memory.specs.Tags.{is_set}
use Rattle.heap_machine.proofs.TaggedLaws.{is_set-from, is_set-shifted, is_set-within}
use Rattle.heap_machine.proofs.machine.making.lowest_from.Goals as goal

pub returns-then-rest-eq0 : goal.returns-then-rest-eq0
returns-then-rest-eq0 c = λ j from.
    sym (is_set-from c.args.word c.args.first j from) ∙ (ap (λ n. is_set n (j - c.args.first)) c.if-rest-eq0.true ∙ is_set_zero (j - c.args.first))

pub returns : goal.returns
returns c =
    let word = c.args.word in
    let first = c.args.first in
    let one = sym (is_set-shifted word first c.lowest_bit.result) ∙ c.lowest_bit.ensures.one in (
      omega arith,
      is_set-within word (first + c.lowest_bit.result) c.ranges.word.fits one,
      one,
      λ k from before. sym (is_set-from word first k from) ∙ c.lowest_bit.ensures.below (k - first) (omega (arith, from, before)),
    )
