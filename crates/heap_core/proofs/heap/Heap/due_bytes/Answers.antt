use Rattle.std.proofs.Common.{arith}
use Rattle.heap_core.proofs.ShadowLaws.{due-heap_state}
use Rattle.heap_core.proofs.heap.Heap.due_bytes.Goals as goal

pub returns : goal.returns
returns c = rw (← c.self.view_is, due-heap_state) (omega (arith, c.self.invariant.due, c.from.ensures))
