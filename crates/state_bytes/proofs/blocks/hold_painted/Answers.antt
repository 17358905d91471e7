use Rattle.std.proofs.Common.{◌∙◌, ◌<◌, length, refl, sym, ap, arith}
use Rattle.std.proofs.lemmas.Bool.{true≢false}
use Rattle.heap_model.specs.Heap.{HeapState}
use Rattle.heap_model.specs.declared.block.Kind.TheVariants.{Painted}
use Rattle.state_bytes.proofs.ReplayLaws.{inside_granules, painted_first, painted_last, painted_row}
use Rattle.state_bytes.proofs.blocks.hold_painted.Goals as goal

pub loop-i-init : goal.loop-i-init
loop-i-init c = record {
  size = refl;
  open_is = refl;
  exact = λ exact. exact;
  all = λ m state text is. painted_first m c.args.heap.now state is;
}

pub returns-then-not-hold_at-clause-all : goal.returns-then-not-hold_at-clause-all
returns-then-not-hold_at-clause-all c m state text is =
    let inside : c.loop-i.i < length m.state.granules = inside_granules m c.args.heap.now.size c.granules-i-end.result c.loop-i.i state (ap (λ (h : HeapState). h.size) is) c.granules-i-end.ensures c.loop-i-test.true in
    let step = painted_row m c.args.heap.now c.loop-i.heap c.hold_at.new.heap c.loop-i.i c.length_of-length.result c.hold_at.result state is
    (c.length_of-length.ensures ∙ c.number_in.ensures m state text inside Painted) (c.loop-i.invariant.all m state text is) c.hold_at.ensures.none c.hold_at.ensures.held in
    absurd (true≢false (sym step.0 ∙ c.if-not-hold_at.true))

pub loop-i-preserved : goal.loop-i-preserved
loop-i-preserved c = record {
  size = c.hold_at.ensures.size ∙ c.loop-i.invariant.size;
  open_is = c.hold_at.ensures.open ∙ c.loop-i.invariant.open_is;
  exact = λ exact. c.hold_at.ensures.exact (c.loop-i.invariant.exact exact);
  all = λ m state text is.
      let inside : c.loop-i.i < length m.state.granules = inside_granules m c.args.heap.now.size c.granules-i-end.result c.loop-i.i state (ap (λ (h : HeapState). h.size) is) c.granules-i-end.ensures c.loop-i-test.true in
      (painted_row m c.args.heap.now c.loop-i.heap c.hold_at.new.heap c.loop-i.i c.length_of-length.result c.hold_at.result state is
      (c.length_of-length.ensures ∙ c.number_in.ensures m state text inside Painted) (c.loop-i.invariant.all m state text is) c.hold_at.ensures.none c.hold_at.ensures.held).1;
}

pub returns-clause-all : goal.returns-clause-all
returns-clause-all c m state text is =
    (refl, painted_last m c.args.heap.now c.loop-i.heap c.loop-i.i state is (c.loop-i.invariant.all m state text is) (omega (arith, c.loop-i-test.false, c.granules-i-end.ensures)))
