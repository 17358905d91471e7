use Rattle.std.proofs.lemmas.Result.{IfOk-weaker}
use Rattle.heap_model.specs.Heap.{due}
use Rattle.sweep_masks.specs.Laws.{TakeTags-dirty}
use Rattle.sweep_masks.specs.Masks.{AreDirtyMasks, TakeTags}
use Rattle.sweep_masks.proofs.dirty.sweep_dirty_alone.Goals as goal

pub returns-clause-due : goal.returns-clause-due
returns-clause-due g c heap of stand =
    IfOk-weaker c.sweep_pages.result (λ masks. AreDirtyMasks c.args.memory.now c.args.shadow.now masks.items) (λ masks. TakeTags c.args.memory.now (due heap) masks.items)
    (λ masks are. TakeTags-dirty heap c.args.memory.now c.args.shadow.now masks.items of stand are) c.sweep_pages.ensures.ok
