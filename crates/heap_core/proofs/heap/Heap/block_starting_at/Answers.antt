use Rattle.std.proofs.Common.{◌≡◌, ◌+◌, ◌*◌, get_or, length, ap, arith}
use Rattle.heap_core.proofs.FoundLaws.{IsFound-kind, LiesAt, none_start}
use Rattle.heap_model.specs.ShadowLaws.{length-bits_of}
use Rattle.heap_core.proofs.heap.Heap.block_starting_at.Goals as goal

pub returns-then-length_at-eq0-clause-none : goal.returns-then-length_at-eq0-clause-none
returns-then-length_at-eq0-clause-none c _ =
    let none : get_or c.self.inside.table.lengths c.args.granule 0 ≡ 0 = omega (arith, c.length_at.ensures, c.if-length_at-eq0.true) in
    rw (← c.self.view_is) (none_start c.self.inside c.args.granule none)

pub kind_at-kind-requires-clause-bits : goal.kind_at-kind-requires-clause-bits
kind_at-kind-requires-clause-bits c = omega (arith, c.self.invariant.lates.same, length-bits_of c.self.inside.late.items, ap length c.deref.ensures.value)

pub returns-clause-some : goal.returns-clause-some
returns-clause-some c =
    let h = c.self.invariant in
    let inside = c.requires.inside in
    let block = c.block_from-block in
    let late = c.kind_at-kind.ensures.late in
    let live = c.kind_at-kind.ensures.live in
    let lies : LiesAt c.self.inside.base c.self.inside.table.lengths (c.self.inside.base + 16 * c.args.granule) c.block_from-block.result.base c.block_from-block.result.top c.args.granule = record {
      at = record {
        within = omega (arith, rw (← c.self.view_is) at inside);
        some = omega (arith, c.length_at.ensures, c.if-length_at-eq0.false);
        start_is = block.ensures.base;
        top_is = omega (arith, block.ensures.base, block.ensures.top);
      };
      from = omega (arith, block.ensures.base);
      before = omega (arith, block.ensures.top, c.length_at.ensures, c.if-length_at-eq0.false);
    } in
    rw (← c.self.view_is) (IsFound-kind h.table h.lates lies c.kind_at-kind.ensures.due (rw c.deref.ensures.value at late) (rw c.deref.ensures.value at live))
