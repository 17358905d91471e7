use Rattle.std.proofs.Common.{◌≡◌, ◌∙◌, ap, false}
use Rattle.heap_model.specs.Heap.{HeapState}
use Rattle.heap_core.proofs.HeapLaws.{heap_state-begun}
use Rattle.heap_core.proofs.LateLaws.{AreLate-none}
use Rattle.heap_core.proofs.SoundLaws.{IsSound-from_table}
use Rattle.heap_core.proofs.heap.Heap.begin_epoch.Goals as goal

pub returns-clause-begun : goal.returns-clause-begun
returns-clause-begun c =
    let inside = c.self.inside in
    let closed : c.self.inside.is_open ≡ false = ap (λ (s : HeapState). s.is_open) c.self.view_is ∙ c.requires in
    rw (← c.self.view_is) (heap_state-begun closed c.self.invariant.lates)

pub returns-clause-sound : goal.returns-clause-sound
returns-clause-sound c =
    let closed : c.self.inside.is_open ≡ false = ap (λ (s : HeapState). s.is_open) c.self.view_is ∙ c.requires in
    let lates = c.self.invariant.lates in
    IsSound-from_table c.self.invariant.table (AreLate-none lates.same (lates.closed closed))
