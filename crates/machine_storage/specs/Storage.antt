-- The heap, memory and registers of a machine: the state that they have, and what holds of them.
use Rattle.std.specs.Prelude.{◌≡◌}
use Rattle.machine_steps.specs.Dirty.{IsDirtied}
use Rattle.machine_steps.specs.Sound.{IsMachine}
use Rattle.machine_steps.specs.State.{State}
use Rattle.machine_storage.specs.declared.storage.Storage.{Storage}

-- The state that a storage has.
abbrev pub state_of : Storage → State
state_of m = record { heap = m.heap; granules = m.memory.granules; registers = m.registers }

-- The memory lies where the heap does, the state is sound, and what the painted blocks have in memory stands in dirty
-- pages.
pub record IsStorage (m : Storage) : Type 0 where
  pub base : m.memory.base ≡ m.heap.base
  pub sound : IsMachine (state_of m)
  pub dirtied : IsDirtied (state_of m) m.memory.dirty
