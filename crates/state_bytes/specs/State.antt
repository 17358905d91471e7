-- What holds of the state of every machine, and of one that bytes can tell of.
use Rattle.std.specs.Prelude.{◌≡◌, ◌<◌, ◌^◌, All}
use Rattle.cap_codec.specs.Rounding.{IsExact}
use Rattle.heap_model.specs.Blocks.{end_of, start_of}
use Rattle.heap_model.specs.Found.{blocks_in}
use Rattle.heap_model.specs.Heap.{HeapState}
use Rattle.heap_model.specs.declared.block.Kind.{Kind}
use Rattle.machine_steps.specs.Dirty.{HasPages, IsDirtied}
use Rattle.heap_machine.specs.Storage.{MachineState}
use Rattle.machine_steps.specs.Sound.{IsMachine}

-- What holds of each machine: its state is sound, what the painted blocks have in memory stands in dirty pages, there is
-- a mark for each page, and words are numbers of 128 bits.
pub record HasInvariant (m : MachineState) : Type 0 where
  pub sound : IsMachine m.state
  pub dirtied : IsDirtied m.state m.dirty
  pub pages : HasPages m.state m.dirty
  pub granules : All (λ granule. granule.0 < 2 ^ 128) m.state.granules
  pub registers : All (λ cell. cell.0.bits < 2 ^ 128) m.state.registers

-- A capability can hold the bounds of each block, whatever its kind.
pub record AreExact (heap : HeapState) : Type 0 where
  pub each : (kind : Kind) → All (λ block. IsExact (start_of block) (end_of block)) (blocks_in heap kind)

-- A state that bytes can tell of: it is a machine's, and its blocks are exact. That of the first machine is, and each
-- command keeps it so.
pub record IsState (m : MachineState) : Type 0 where
  pub invariant : HasInvariant m
  pub exact : AreExact m.state.heap

-- Both have one state and the same dirty pages. Their sweeps may be cut in other ways.
abbrev pub IsSameState : MachineState → MachineState → Type 0
IsSameState m n = (m.state ≡ n.state) × (m.dirty ≡ n.dirty)

-- Both have one heap, the same granules and the same dirty pages. Their registers may differ.
pub record HasMemoryOf (m n : MachineState) : Type 0 where
  pub heap : n.state.heap ≡ m.state.heap
  pub granules : n.state.granules ≡ m.state.granules
  pub dirty : n.dirty ≡ m.dirty
