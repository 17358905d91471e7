-- A machine as it is kept: its storage. And as a caller sees it.
use Rattle.std.specs.Prelude.{List, Bool}
use Rattle.sweep_masks.specs.Tasks.{Cut}
use Rattle.machine_steps.specs.State.{State}
use Rattle.machine_storage.specs.Storage.{state_of}
use Rattle.machine_storage.specs.declared.storage.Storage.{Storage}

-- What a caller sees of a machine: its state, which pages of its memory are dirty, and how its sweeps are cut.
pub record MachineState : Type 0 where
  pub state : State
  pub dirty : List Bool
  pub cutting : Cut

-- What a caller sees of them, where sweeps are cut so.
abbrev pub machine_of : Storage → Cut → MachineState
machine_of m cutting = record { state = state_of m; dirty = m.memory.dirty; cutting = cutting }
