use Rattle.std.proofs.Common.{◌≡◌, ◌∙◌, sym, true}
use Rattle.heap_model.specs.Heap.{due}
use Rattle.sweep_masks.specs.Masks.{TakeTags}
use Rattle.heap_machine.proofs.PassLaws.{AreInDirtyPages-storage, IfSome-ok, IsShadowOf-storage}
use Rattle.heap_machine.proofs.passes.masks_alone.Goals as goal

pub returns-then-is_open : goal.returns-then-is_open
returns-then-is_open g c = λ storage.
    let m = c.args.storage.now in
    let opened : c.args.storage.now.heap.is_open ≡ true = sym c.is_open.ensures ∙ c.if-is_open.true in
    let taken = c.sweep_dirty_alone.ensures.due m.heap (IsShadowOf-storage m _ storage c.requires) (AreInDirtyPages-storage m storage opened) in
    rw c.ok.ensures.value (IfSome-ok (λ masks. TakeTags m.memory (due m.heap) masks.items) c.sweep_dirty_alone.result taken)
