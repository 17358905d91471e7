use Rattle.std.proofs.Common.{◌∙◌, List, ap, sym}
use Rattle.cap_codec.specs.declared.word.Bounds.{Bounds}
use Rattle.heap_model.specs.Blocks.{Span, lies_in}
use Rattle.heap_model.specs.Laws.{due-open}
use Rattle.heap_machine.proofs.machine.making.is_painted.Goals as goal

pub returns-then-is_open : goal.returns-then-is_open
returns-then-is_open c =
    c.is_due.ensures
    ∙ (ap (λ (blocks : List Span). lies_in blocks c.bounds.result.base) (due-open c.args.heap.now (sym c.is_open.ensures ∙ c.if-is_open.true))
    ∙ ap (λ (b : Bounds). lies_in c.args.heap.now.painted b.base) c.bounds.ensures.value)
