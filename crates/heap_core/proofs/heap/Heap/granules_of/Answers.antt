use Rattle.std.proofs.Common.{refl, ◌≡◌, ◌%◌, arith}
use Rattle.heap_core.proofs.PlaceLaws.{base_granule}
use Rattle.heap_core.proofs.heap.Heap.granules_of.Goals as goal

pub returns-clause-fit : goal.returns-clause-fit
returns-clause-fit c =
    let h = c.self.invariant in
    let even : c.args.base % 16 ≡ 0 = c.if-not-is_multiple_of.ensures.0 refl in
    let even_top : c.args.top % 16 ≡ 0 = c.if-not-is_multiple_of-2.ensures.0 refl in
    rw (← c.self.view_is) (record {
      could = record {
        even = (even, even_top);
        order = omega arith;
        inside = (omega arith, omega arith);
        exact = c.with_bounds-exact.ensures.exact.0 c.if-not-exact.false;
      };
      at = omega (arith, base_granule h.table);
      length = omega arith;
    })
