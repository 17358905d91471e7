use Rattle.std.proofs.Common.{◌∙◌, refl, sym, ap, arith}
use Rattle.std.proofs.lemmas.Bool.{true≢false}
use Rattle.heap_model.specs.Heap.{HeapState}
use Rattle.state_bytes.proofs.ReplayLaws.{reached_first, reached_last}
use Rattle.state_bytes.proofs.blocks.read_others.Goals as goal

pub loop-i-init : goal.loop-i-init
loop-i-init c = record {
  size = refl;
  exact = λ exact. exact;
  all = λ m state text is. reached_first m c.args.heap.now state is;
}

pub returns-then-not-read_row-clause-all : goal.returns-then-not-read_row-clause-all
returns-then-not-read_row-clause-all c m state text is =
    absurd (true≢false (sym (c.read_row.ensures.all m state text (c.loop-i.invariant.all m state text is)).0 ∙ c.if-not-read_row.true))

pub loop-i-preserved : goal.loop-i-preserved
loop-i-preserved c = record {
  size = c.read_row.ensures.size ∙ c.loop-i.invariant.size;
  exact = λ exact. c.read_row.ensures.exact (c.loop-i.invariant.exact exact);
  all = λ m state text is. (c.read_row.ensures.all m state text (c.loop-i.invariant.all m state text is)).1;
}

pub returns-clause-all : goal.returns-clause-all
returns-clause-all c m state text is =
    let size = ap (λ (h : HeapState). h.size) is in
    (refl, reached_last m c.loop-i.heap c.loop-i.i state (c.loop-i.invariant.all m state text is) (omega (arith, size, c.loop-i-test.false, c.granules-i-end.ensures)))
