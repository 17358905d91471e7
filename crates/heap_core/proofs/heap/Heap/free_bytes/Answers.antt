use Rattle.std.proofs.Common.{arith}
use Rattle.heap_core.proofs.HeapLaws.{granules_of_all, held_bytes-state}
use Rattle.heap_core.proofs.heap.Heap.free_bytes.Goals as goal

pub overflow_sub-result : goal.overflow_sub-result
overflow_sub-result c = omega (arith, granules_of_all c.self.invariant)

pub overflow_sub-result-2 : goal.overflow_sub-result-2
overflow_sub-result-2 c = omega (arith, granules_of_all c.self.invariant)

pub returns : goal.returns
returns c =
    let h = c.self.invariant in
    let inside = c.self.inside in
    rw (← c.self.view_is) (omega (
      arith,
      granules_of_all h,
      h.live,
      h.due,
      h.late,
      held_bytes-state inside.base h.lates,
    ))
