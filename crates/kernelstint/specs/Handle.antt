-- What a handle owns: nothing at null, or the value behind the pointer with the right to free its block.
use base.Fml.{Fml, feq}
use denote.RattleType.{RattleType}
use denote.RawPtr.{Ptr, null_ptr}
use Rattle.std.specs.Prelude.{Option, Some, None}
use Rattle.std.specs.Box.Ownership.{box_owns}
use Rattle.host_memory.specs.Heap as heap
use Rattle.host_memory.specs.Heap.{ghosts}
use Rattle.heap_machine.specs.contracts.machine.Machine.{the_row}

abbrev pub handle_owns : (heap.the_row).Denot → (R : RattleType) → Ptr → Option R.Denot → Fml
handle_owns a R p None = feq Ptr p null_ptr
handle_owns a R p (Some x) = box_owns (ghosts.dealloc_token a) R p x

abbrev pub machine_owns : (heap.the_row).Denot → Ptr → Option the_row.Denot → Fml
machine_owns a = handle_owns a the_row
