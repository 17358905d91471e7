use Rattle.std.proofs.Common.{◌≡◌, ◌∙◌, ℕ, false, get_or, refl, sym}
use Rattle.heap_model.specs.Shadow.{bits_of}
use Rattle.heap_core.proofs.HeapLaws.{heap_state-dropped}
use Rattle.heap_core.proofs.KeptLaws.{IsTable-kept, held_blocks-kept, length-kept_lengths}
use Rattle.heap_core.proofs.LateLaws.{AreLate-none, either-none_left, late_blocks-dropped, live_blocks-dropped, none_late}
use Rattle.heap_core.proofs.heap.Heap.drop_due.Goals as goal

pub invariant_of-self : goal.invariant_of-self
invariant_of-self c =
    let inside = c.self.inside in
    let h = c.self.invariant in
    let dropped = c.free_due.ensures in
    let lengths = c.self.inside.table.lengths in
    let marks = c.self.inside.table.marks in
    let lates = bits_of c.self.inside.late.items in
    let none = c.requires in
    let none_are : (k : ℕ) → get_or (bits_of c.self.inside.late.items) k false ≡ false = none_late inside.base h.lates (rw (← c.self.view_is) at none) in
    record {
      table = rw (dropped.lengths, dropped.marks) (IsTable-kept h.table);
      lates = rw (dropped.lengths, dropped.marks) (AreLate-none (h.lates.same ∙ sym (length-kept_lengths _ lengths marks h.table.same)) none_are);
      live = rw (dropped.lengths, dropped.marks, either-none_left _ lates h.lates.same, live_blocks-dropped inside.base 0 lengths marks lates h.table.same h.lates.same) h.live;
      due = rw (dropped.lengths, dropped.marks, held_blocks-kept inside.base 0 lengths marks h.table.same) refl;
      late = rw (dropped.lengths, late_blocks-dropped inside.base 0 lengths marks lates h.table.same h.lates.same h.lates.apart) h.late;
    }

pub returns : goal.returns
returns c =
    let inside = c.self.inside in
    let h = c.self.invariant in
    let dropped = c.free_due.ensures in
    let lengths = inside.table.lengths in
    let marks = inside.table.marks in
    let lates = bits_of inside.late.items in
    let none = c.requires in
    let none_are : (k : ℕ) → get_or (bits_of c.self.inside.late.items) k false ≡ false = none_late inside.base h.lates (rw (← c.self.view_is) at none) in
    rw (← c.self.view_is, dropped.lengths, dropped.marks) (heap_state-dropped inside.base lengths marks lates inside.is_open h.table.same h.lates.same none_are)
