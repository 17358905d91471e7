use Rattle.heap_core.proofs.SoundLaws.{IsSound-from_table}
use Rattle.heap_core.proofs.heap.Heap.invariant.Goals as goal

pub returns : goal.returns
returns c = rw (← c.self.view_is) (IsSound-from_table c.self.invariant.table c.self.invariant.lates)
