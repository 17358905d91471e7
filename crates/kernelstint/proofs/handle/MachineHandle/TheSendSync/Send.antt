-- A handle may go to another thread: what it owns may.
use mir.Raw.{raw}
use base.Shift.{Keyless}
use denote.Memory.{lone}
use denote.RawPtr.{Ptr}
use denote.Struct.Struct.{exits_of}
use denote.Struct.Owning.{shape, fields, to}
use denote.Param.Send.{IsSend, AllSend, owning_send, struct_send, sendable}
use Rattle.std.specs.Prelude.{Option, Some, None}
use Rattle.host_memory.proofs.HeapLaws as heap
use Rattle.host_memory.proofs.HeapLaws.{frees}
use Rattle.std_alloc.proofs.SendSync.{quiet, lies}
use Rattle.heap_machine.proofs.machine.Machine.TheSendSync.{the_send as inner}
use Rattle.kernelstint.proofs.HandleValues.{R, Z}
use Rattle.kernelstint.specs.Handle.{handle_owns}
use Rattle.kernelstint.specs.contracts.handle.MachineHandle.{the_row, the_type}

held_keyless : (a : Z.Denot) (p : Ptr) (x : Option R.Denot) → Keyless (handle_owns a R p x)
held_keyless a p None = tt
held_keyless a p (Some x) = (lies R inner p x, frees.frees a (raw (lone R.mir)) p)

pub send : IsSend the_row
send =
    let all : AllSend (fields the_type) = (search sendable, (heap.the_field_send, tt)) in
    owning_send the_type all (λ d. held_keyless d.alloc d.at d.value) (λ k. quiet (to the_type) (exits_of k (fields the_type)) ((struct_send (shape the_type) all).leaving k))
