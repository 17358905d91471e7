use Rattle.heap_core.proofs.ShadowLaws.{IsShadow-painted}
use Rattle.heap_core.proofs.heap.Heap.shadow.Goals as goal

pub returns-clause-shadow : goal.returns-clause-shadow
returns-clause-shadow c = rw (← c.self.view_is) (IsShadow-painted _ c.self.invariant.table c.in-Ok.ensures.granules c.in-Ok.ensures.painted)
