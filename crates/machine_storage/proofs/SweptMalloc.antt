-- What a malloc leaves that sweeps first: the state after the sweep, with a block more or without.
use Rattle.std.proofs.Common.{◌≡◌, ◌∙◌, ◌≤◌, ◌+◌, ◌-◌, ℕ, List, max, true, ap}
use Rattle.cap_codec.specs.Words.{capability_of}
use Rattle.heap_model.specs.Claim.{IsClaimable}
use Rattle.heap_model.specs.Heap.{HeapState}
use Rattle.heap_model.specs.Place.{IsPlace, block_length, with_block, with_live}
use Rattle.heap_model.specs.Quarantine.{without_waiting}
use Rattle.tag_memory.specs.Cells.{Cell, MemoryState, null_cell, registers_with}
use Rattle.machine_storage.specs.Revoked.{AreApplied}
use Rattle.machine_steps.specs.Follow.{Places, PlacesNone}
use Rattle.machine_steps.specs.State.{State}
use Rattle.machine_steps.specs.Step.{HandsOut, HandsOutNone, HasNoPlace, after_sweep}

pub HandsOut-swept : (s : State) (rd size base top : ℕ) (heap : HeapState) (old new : MemoryState) (registers left : List Cell)
    → old.granules ≡ s.granules → IsPlace (without_waiting s.heap) size base → top ≡ base + block_length size → heap ≡ with_live (without_waiting s.heap) size base
    → AreApplied s.heap.waiting old s.registers new registers → left ≡ registers_with registers rd (capability_of base top, true)
    → HandsOut (after_sweep s) rd size base top (record { heap = heap; granules = new.granules; registers = left })
HandsOut-swept s rd size base top heap old new registers left same place end live taken written =
    let granules = rw same at taken.granules in
    let set = written ∙ ap (λ (cells : List Cell). registers_with cells rd (capability_of base top, true)) taken.registers_are in
    record { place = place; end = end; state = λ i. record { heap = live i; granules = granules i; registers = set i } }

pub HandsOutNone-swept : (s : State) (rd size : ℕ) (heap : HeapState) (old new : MemoryState) (registers left : List Cell)
    → old.granules ≡ s.granules → HasNoPlace (after_sweep s) size → heap ≡ without_waiting s.heap
    → AreApplied s.heap.waiting old s.registers new registers → left ≡ registers_with registers rd null_cell
    → HandsOutNone (after_sweep s) rd size (record { heap = heap; granules = new.granules; registers = left })
HandsOutNone-swept s rd size heap old new registers left same none free taken written =
    let granules = rw same at taken.granules in
    let set = written ∙ ap (λ (cells : List Cell). registers_with cells rd null_cell) taken.registers_are in
    record { none = none; state = λ i. record { heap = free i; granules = granules i; registers = set i } }

-- And what an allocator leaves that answers so.
pub Places-swept : (s : State) (rd size base top : ℕ) (heap : HeapState) (old new : MemoryState) (registers left : List Cell)
    → old.granules ≡ s.granules → IsClaimable (without_waiting s.heap) base top → base + max 1 size ≤ top → heap ≡ with_block (without_waiting s.heap) base (top - base)
    → AreApplied s.heap.waiting old s.registers new registers → left ≡ registers_with registers rd (capability_of base top, true)
    → Places (after_sweep s) rd size base top (record { heap = heap; granules = new.granules; registers = left })
Places-swept s rd size base top heap old new registers left same may enough live taken written =
    let granules = rw same at taken.granules in
    let set = written ∙ ap (λ (cells : List Cell). registers_with cells rd (capability_of base top, true)) taken.registers_are in
    record { may = may; enough = enough; state = λ i. record { heap = live i; granules = granules i; registers = set i } }

pub PlacesNone-swept : (s : State) (rd : ℕ) (heap : HeapState) (old new : MemoryState) (registers left : List Cell)
    → old.granules ≡ s.granules → heap ≡ without_waiting s.heap
    → AreApplied s.heap.waiting old s.registers new registers → left ≡ registers_with registers rd null_cell
    → PlacesNone (after_sweep s) rd (record { heap = heap; granules = new.granules; registers = left })
PlacesNone-swept s rd heap old new registers left same free taken written =
    let granules = rw same at taken.granules in
    let set = written ∙ ap (λ (cells : List Cell). registers_with cells rd null_cell) taken.registers_are in
    record { state = λ i. record { heap = free i; granules = granules i; registers = set i } }
