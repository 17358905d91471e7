-- What was read of a machine.
use Rattle.std.specs.Prelude.{◌≡◌, ◌<◌, ◌+◌, ◌*◌, ◌==◌, ℕ, List, drop, false, length, slice_index_or}
use Rattle.byteorder.specs.Endian.{little_number}
use Rattle.heap_model.specs.Heap.{HeapState}
use Rattle.heap_machine.specs.Storage.{MachineState}
use Rattle.tag_memory.specs.Cells.{Cell, Granule, MemoryState}
use Rattle.state_bytes.specs.declared.decoding.Head.{Head}

-- The head is that of the machine.
pub record HasHead (m : MachineState) (head : Head) : Type 0 where
  pub base : head.base ≡ m.state.heap.base
  pub pages : head.pages ≡ length m.dirty
  pub open_is : head.is_open ≡ m.state.heap.is_open

-- The parts are those of the machine.
pub record HasParts (m : MachineState) (heap : HeapState) (memory : MemoryState) (registers : List Cell) : Type 0 where
  pub heap_is : heap ≡ m.state.heap
  pub base : memory.base ≡ m.state.heap.base
  pub granules : memory.granules ≡ m.state.granules
  pub dirty : memory.dirty ≡ m.dirty
  pub registers_are : registers ≡ m.state.registers

-- A granule's bytes and its tag are those of its row in a text.
pub record IsReadAt (bytes : List ℕ) (i : ℕ) (granule : Granule) : Type 0 where
  pub bits : little_number 16 (drop (13 + 21 * i) bytes) ≡ granule.0
  pub tag : (slice_index_or bytes (13 + 21 * i + 16) 0 == 1) ≡ granule.1

-- So are those of each granule.
abbrev pub AreReadFrom : List ℕ → List Granule → Type 0
AreReadFrom bytes granules = (i : ℕ) → i < length granules → IsReadAt bytes i (slice_index_or granules i (0, false))
