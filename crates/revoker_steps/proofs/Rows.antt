-- Rows worked by hand, of a heap of one page: granules 0 to 3 are a painted block, granule 4 is a live one. A pointer to the first
-- lies in granule 0 and in register 1, one to the second in granule 2.
use Rattle.std.specs.Prelude.{List, [], ◌∷◌, true, false, refl}
use Rattle.cap_codec.specs.declared.word.Word.{Word}
use Rattle.cap_codec.specs.Bounds.{bounds_of}
use Rattle.cap_codec.specs.Fields.{bits_with, fields_of}
use Rattle.cap_codec.specs.Rounding.{with_bounds_of}
use Rattle.cap_codec.specs.Words.{capability_of}
use Rattle.heap_model.specs.Heap.{HeapState}
use Rattle.tag_memory.specs.Cells.{Cell, Granule, null_cell}
use Rattle.machine_steps.specs.State.{State}
use Rattle.revoker_steps.specs.declared.command.RevokerCommand.TheVariants.{Paint, Release, UntagGranule, UntagRegister, Visit}
use Rattle.revoker_steps.specs.declared.command.RevokerReply.TheVariants.{Cleared, Done, Released, Trap}
use Rattle.revoker_steps.specs.declared.command.RevokerTrap.TheVariants.{Align, Bounds, Left, NotOpen, Open}
use Rattle.revoker_steps.specs.Revoker.{RevokerStep}

abbrev freed : Word
freed = capability_of 1073741824 1073741888

abbrev live : Word
live = capability_of 1073741888 1073741904

abbrev heap : HeapState
heap = record { base = 1073741824; size = 4096; live = (1073741888, 16) ∷ []; waiting = []; painted = (1073741824, 64) ∷ []; is_open = true }

abbrev granules : List Granule
granules = (freed.bits, true) ∷ (0, false) ∷ (live.bits, true) ∷ []

abbrev registers : List Cell
registers = null_cell ∷ (freed, true) ∷ []

abbrev start : State
start = record { heap = heap; granules = granules; registers = registers }

-- An epoch is open.
paint : RevokerStep start Paint (Trap Open) start
paint = (refl, refl)

-- The heap has no page 1.
visit_past_the_end : RevokerStep start (Visit 1) (Trap Bounds) start
visit_past_the_end = (refl, refl)

abbrev visited : State
visited = record start { granules = (freed.bits, false) ∷ (0, false) ∷ (live.bits, true) ∷ [] }

-- On page 0 the pointer to the painted block loses its tag; that to the live one keeps it.
visit : RevokerStep start (Visit 0) (Cleared 1) visited
unfolding bounds_of fields_of bits_with with_bounds_of capability_of
visit = (refl, refl)

-- A second visit finds nothing.
visit_again : RevokerStep visited (Visit 0) (Cleared 0) visited
unfolding bounds_of fields_of bits_with with_bounds_of capability_of
visit_again = (refl, refl)

untag : RevokerStep start (UntagGranule 1073741824) (Cleared 1) visited
unfolding bounds_of fields_of bits_with with_bounds_of capability_of
untag = (refl, refl)

untag_of_a_live_one : RevokerStep start (UntagGranule 1073741856) (Cleared 0) start
unfolding bounds_of fields_of bits_with with_bounds_of capability_of
untag_of_a_live_one = (refl, refl)

-- Its neighbour stays, though its base is painted too.
abbrev two : List Granule
two = (freed.bits, true) ∷ (freed.bits, true) ∷ (0, false) ∷ []

untag_of_one_of_two : RevokerStep (record start { granules = two }) (UntagGranule 1073741840) (Cleared 1) (record start { granules = (freed.bits, true) ∷ (freed.bits, false) ∷ (0, false) ∷ [] })
unfolding bounds_of fields_of bits_with with_bounds_of capability_of
untag_of_one_of_two = (refl, refl)

untag_between_granules : RevokerStep start (UntagGranule 1073741832) (Trap Align) start
untag_between_granules = (refl, refl)

untag_below_the_heap : RevokerStep start (UntagGranule 1073741808) (Trap Bounds) start
untag_below_the_heap = (refl, refl)

untag_past_the_heap : RevokerStep start (UntagGranule 1073745920) (Trap Bounds) start
untag_past_the_heap = (refl, refl)

abbrev clear : State
clear = record visited { registers = null_cell ∷ (freed, false) ∷ [] }

untag_register : RevokerStep visited (UntagRegister 1) (Cleared 1) clear
unfolding bounds_of fields_of bits_with with_bounds_of capability_of
untag_register = (refl, refl)

-- The pointer in register 1 is left.
release_too_early : RevokerStep visited Release (Trap Left) visited
unfolding bounds_of fields_of bits_with with_bounds_of capability_of
release_too_early = (refl, refl)

abbrev released : State
released = record clear { heap = record heap { painted = []; is_open = false } }

release : RevokerStep clear Release (Released 64) released
unfolding bounds_of fields_of bits_with with_bounds_of capability_of
release = (refl, refl)

-- No epoch is open any more.
visit_after_it : RevokerStep released (Visit 0) (Trap NotOpen) released
visit_after_it = (refl, refl)

paint_nothing : RevokerStep released Paint Done (record released { heap = record heap { painted = []; is_open = true } })
paint_nothing = (refl, refl)
