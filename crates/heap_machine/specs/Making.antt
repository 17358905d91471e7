-- The machine of a given heap, memory and registers: what they must be, and why they are none.
use Rattle.std.specs.Prelude.{◌≡◌, ◌<◌, ◌*◌, ◌/◌, ℕ, All, List, false, length, slice_index_or, true}
use Rattle.heap_model.specs.Heap.{HeapState}
use Rattle.heap_model.specs.Sweep.{AreInDirtyPages, takes_tag}
use Rattle.sweep_masks.specs.Tasks.{Cut}
use Rattle.tag_memory.specs.Cells.{Cell, MemoryState, cell_of, is_dirty_at, register_at, register_count}
use Rattle.heap_machine.specs.Storage.{MachineState}
use Rattle.machine_steps.specs.Safety.{HoldsGuarded, IsGuarded, IsSafe}
use Rattle.heap_machine.specs.declared.machine.making.Flaw.{Flaw}
use Rattle.heap_machine.specs.declared.machine.making.Flaw.TheVariants.{Clean, Elsewhere, Granule, Register}

-- What a caller sees of it.
abbrev pub machine_of_fields : HeapState → MemoryState → List Cell → Cut → MachineState
machine_of_fields heap memory registers cutting = record {
  state = record { heap = heap; granules = memory.granules; registers = registers };
  dirty = memory.dirty;
  cutting = cutting;
}

-- The memory lies where the heap does.
pub record LieTogether (heap : HeapState) (memory : MemoryState) : Type 0 where
  pub base : memory.base ≡ heap.base
  pub granules : 16 * length memory.granules ≡ heap.size

-- They make a machine: the memory lies where the heap does, the state is safe, and what the painted blocks have in
-- memory stands in dirty pages.
pub record IsMakeable (heap : HeapState) (memory : MemoryState) (registers : List Cell) (cutting : Cut) : Type 0 where
  pub together : LieTogether heap memory
  pub safe : IsSafe (machine_of_fields heap memory registers cutting).state
  pub dirtied : AreInDirtyPages memory.granules memory.dirty heap.painted

-- The first number of which P doesn't hold.
pub record FirstLacks (P : ℕ → Type 0) (i : ℕ) : Type 0 where
  pub lacks : ¬ P i
  pub before : (k : ℕ) → k < i → P k

-- The register is guarded.
abbrev pub HasGuarded : HeapState → List Cell → ℕ → Type 0
HasGuarded heap registers r = IsGuarded heap (register_at registers r)

-- The granule is guarded.
abbrev pub HasGuardedAt : HeapState → MemoryState → ℕ → Type 0
HasGuardedAt heap memory i = HoldsGuarded heap (slice_index_or memory.granules i (0, false))

-- The granule has no word whose base lies in a painted block, or stands in a dirty page.
abbrev pub StandsDirty : HeapState → MemoryState → ℕ → Type 0
StandsDirty heap memory i =
    takes_tag heap.painted (cell_of (slice_index_or memory.granules i (0, false))) ≡ true → is_dirty_at memory.dirty (i / 256) ≡ true

-- Why they make none: the first of these that is true.
abbrev pub IsFlaw : HeapState → MemoryState → List Cell → Flaw → Type 0
IsFlaw heap memory registers Elsewhere = ¬ LieTogether heap memory
IsFlaw heap memory registers (Register r) =
    LieTogether heap memory × (r < register_count) × FirstLacks (HasGuarded heap registers) r
IsFlaw heap memory registers (Granule i) =
    LieTogether heap memory × All (IsGuarded heap) registers × (i < length memory.granules) × FirstLacks (HasGuardedAt heap memory) i
IsFlaw heap memory registers (Clean i) =
    LieTogether heap memory × All (IsGuarded heap) registers × All (HoldsGuarded heap) memory.granules × (i < length memory.granules)
    × FirstLacks (StandsDirty heap memory) i
