use Rattle.std.proofs.Common.{arith}
use Rattle.heap_core.proofs.HeapLaws.{held_bytes-state}
use Rattle.heap_core.proofs.heap.Heap.held_bytes.Goals as goal

pub returns : goal.returns
returns c =
    let h = c.self.invariant in
    let inside = c.self.inside in
    rw (← c.self.view_is) (omega (arith, h.due, h.late, held_bytes-state inside.base h.lates))
