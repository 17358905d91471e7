use Rattle.std.proofs.lemmas.Result.{IfOk-weaker}
use Rattle.heap_model.specs.Heap.{due}
use Rattle.sweep_masks.specs.Laws.{TakeTags-masks}
use Rattle.sweep_masks.specs.Masks.{AreMasks, TakeTags}
use Rattle.sweep_masks.proofs.pool.sweep_masks.Goals as goal

pub returns-clause-due : goal.returns-clause-due
returns-clause-due g c heap of =
    IfOk-weaker c.sweep_shared.result (λ masks. AreMasks c.args.memory.now c.args.shadow.now masks.items) (λ masks. TakeTags c.args.memory.now (due heap) masks.items)
    (λ masks are. TakeTags-masks heap c.args.memory.now c.args.shadow.now masks.items of are) c.sweep_shared.ensures.ok
