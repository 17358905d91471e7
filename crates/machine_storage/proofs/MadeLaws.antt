-- What a change leaves once it is made.
use Rattle.std.proofs.Common.{◌≡◌, ◌∙◌, ℕ, List, ap, sym}
use Rattle.heap_model.specs.Heap.{HeapState, due}
use Rattle.heap_model.specs.Quarantine.{with_epoch, without_due}
use Rattle.heap_model.specs.Sweep.{swept_granules}
use Rattle.sweep_masks.specs.Masks.{TakeTags}
use Rattle.tag_memory.specs.Cells.{Cell, Granule, MemoryState}
use Rattle.tag_memory.specs.Tags.{without_tags}
use Rattle.machine_steps.specs.State.{State}
use Rattle.machine_steps.specs.Step.{after_begin}
use Rattle.machine_storage.specs.Decision.{revoked}
use Rattle.machine_storage.specs.Revoked.{AreApplied}
use Rattle.machine_storage.specs.Storage.{state_of}
use Rattle.machine_storage.specs.declared.storage.Storage.{Storage}
use Rattle.machine_storage.proofs.DueSweep.{base_without_due}
use Rattle.machine_storage.proofs.SweptMemory.{without_tags-swept}

-- The tags of the masks are taken, and an epoch begins.
pub begins-left : (s : State) (m : MemoryState) (masks : List ℕ) (granules : List Granule) → m.granules ≡ s.granules → TakeTags m s.heap.waiting masks
    → granules ≡ without_tags masks m.granules → record { heap = with_epoch s.heap; granules = granules; registers = s.registers } ≡ after_begin s
begins-left s m masks granules same take taken =
    let left : granules ≡ swept_granules s.heap.waiting s.granules = taken ∙ (without_tags-swept s.heap.waiting m masks take ∙ ap (swept_granules s.heap.waiting) same) in
    λ i. record { heap = with_epoch s.heap; granules = left i; registers = s.registers }

-- The tags of what is due are taken, and these blocks are free.
pub revoked-left : (m : Storage) (heap : HeapState) (memory : MemoryState) (registers : List Cell) → heap ≡ without_due m.heap
    → AreApplied (due m.heap) m.memory m.registers memory registers → record { heap = heap; granules = memory.granules; registers = registers } ≡ revoked (state_of m)
revoked-left m heap memory registers free taken = λ i. record { heap = free i; granules = taken.granules i; registers = taken.registers_are i }

pub revoked-base : (m : Storage) (heap : HeapState) → m.memory.base ≡ m.heap.base → heap ≡ without_due m.heap → m.memory.base ≡ heap.base
revoked-base m heap same free = same ∙ sym (ap (λ (h : HeapState). h.base) free ∙ base_without_due m.heap)
