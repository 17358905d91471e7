use Rattle.std.proofs.Common.{◌≡◌, ◌∙◌, ℕ, List, sym, ap, false, true, length, get_or, replicate, refl, zero, arith}
use Rattle.std.proofs.lemmas.List.{length-replicate}
use Rattle.std.specs.Vec.{vec_len}
use Rattle.heap_model.specs.Heap.{HeapState}
use Rattle.heap_model.specs.Shadow.{bits_of}
use Rattle.heap_core.specs.Table.{is_unmarked, kept_lengths}
use Rattle.heap_core.proofs.EmptyLaws.{is_set-zeros}
use Rattle.heap_core.proofs.HeapLaws.{heap_state-ended}
use Rattle.heap_core.proofs.KeptLaws.{IsTable-kept, length-kept_lengths}
use Rattle.heap_core.proofs.LateLaws.{AreLate-none, bits_of-none, either-none_right, late_blocks-dropped, late_stays, live_blocks-dropped, marks_of_bits, no_due}
use Rattle.heap_model.specs.ShadowLaws.{length-bits_of}
use Rattle.heap_core.proofs.SoundLaws.{IsTable-marks}
use Rattle.heap_core.proofs.ExtentLaws.{LiesWithin-table}
use Rattle.tag_memory.specs.Tags.{is_set_for}
use Rattle.heap_core.proofs.heap.Heap.end_epoch.Goals as goal

pub make_starts_due-requires-clause-bits : goal.make_starts_due-requires-clause-bits
make_starts_due-requires-clause-bits c =
    let h = c.self.invariant in
    let now = c.self.inside.table in
    omega (arith, ap length c.deref.ensures.value, ap length c.free_due.ensures.lengths, length-kept_lengths is_unmarked now.lengths now.marks h.table.same, h.lates.same, length-bits_of c.self.inside.late.items)

pub make_starts_due-requires-clause-limit : goal.make_starts_due-requires-clause-limit
make_starts_due-requires-clause-limit c =
    let h = c.self.invariant in
    let now = c.self.inside.table in
    omega (arith, ap length c.free_due.ensures.lengths, length-kept_lengths is_unmarked now.lengths now.marks h.table.same, h.table.count, (LiesWithin-table h.table).limit)

pub make_starts_due-requires-clause-same : goal.make_starts_due-requires-clause-same
make_starts_due-requires-clause-same c =
    let h = c.self.invariant in
    let now = c.self.inside.table in
    ap length c.free_due.ensures.marks ∙ (length-replicate (length now.lengths) false ∙ sym (ap length c.free_due.ensures.lengths ∙ length-kept_lengths is_unmarked now.lengths now.marks h.table.same))

pub make_starts_due-requires-clause-blocks : goal.make_starts_due-requires-clause-blocks
make_starts_due-requires-clause-blocks c =
    let h = c.self.invariant in
    λ k one.
    let row : is_set_for c.self.inside.late.items k ≡ true = ap (λ (xs : List ℕ). is_set_for xs k) (sym c.deref.ensures.value) ∙ one in
    rw c.free_due.ensures.lengths (late_stays c.self.inside.late.items h.table.same h.lates k row)

pub make_starts_due-requires-clause-end : goal.make_starts_due-requires-clause-end
make_starts_due-requires-clause-end c = rw (c.free_due.ensures.lengths) (IsTable-kept c.self.invariant.table).inside

pub make_starts_due-requires-clause-apart : goal.make_starts_due-requires-clause-apart
make_starts_due-requires-clause-apart c = rw (c.free_due.ensures.lengths) (IsTable-kept c.self.invariant.table).apart

pub invariant_of-self : goal.invariant_of-self
invariant_of-self c =
    let inside = c.self.inside in
    let h = c.self.invariant in
    let dropped = c.free_due.ensures in
    let lengths = inside.table.lengths in
    let marks = inside.table.marks in
    let lates = bits_of inside.late.items in
    let kept = kept_lengths is_unmarked lengths marks in
    let starts = c.make_starts_due.ensures in
    let long : length (kept_lengths is_unmarked c.self.inside.table.lengths c.self.inside.table.marks) ≡ length c.self.inside.table.lengths = length-kept_lengths is_unmarked lengths marks h.table.same in
    let lengths_are : c.make_starts_due.new.self.lengths ≡ kept_lengths is_unmarked c.self.inside.table.lengths c.self.inside.table.marks = starts.lengths ∙ dropped.lengths in
    let marks_are : c.make_starts_due.new.self.marks ≡ bits_of c.self.inside.late.items =
    marks_of_bits c.make_starts_due.new.self.marks inside.late.items
    (omega (arith, starts.count, ap length dropped.marks, length-replicate (length lengths) false, h.lates.same, length-bits_of inside.late.items))
    (λ k. starts.marks k ∙ ap (λ (xs : List ℕ). is_set_for xs k) c.deref.ensures.value) in
    let nones = bits_of c.fill.new.self.items in
    let zeros_are : c.fill.new.self.items ≡ replicate (vec_len c.self.inside.late) 0 = c.fill.ensures.items (λ y e. e) in
    let none : (k : ℕ) → get_or (bits_of c.fill.new.self.items) k false ≡ false = bits_of-none c.fill.new.self.items (λ k. ap (λ (xs : List ℕ). is_set_for xs k) zeros_are ∙ is_set-zeros (vec_len inside.late) k) in
    let width : length (bits_of c.fill.new.self.items) ≡ length (kept_lengths is_unmarked c.self.inside.table.lengths c.self.inside.table.marks) =
    omega (
      arith,
      length-bits_of c.fill.new.self.items,
      ap length zeros_are,
      length-replicate (vec_len inside.late) zero,
      c.deref.ensures.len,
      ap length c.deref.ensures.value,
      length-bits_of inside.late.items,
      h.lates.same,
      long,
    ) in
    record {
      table = rw (lengths_are, marks_are) (IsTable-marks (h.lates.same ∙ sym long) (IsTable-kept h.table));
      lates = rw (lengths_are, marks_are) (AreLate-none width none);
      live = rw (lengths_are, marks_are, either-none_right lates nones none, live_blocks-dropped inside.base 0 lengths marks lates h.table.same h.lates.same) h.live;
      due = rw (lengths_are, marks_are, late_blocks-dropped inside.base 0 lengths marks lates h.table.same h.lates.same h.lates.apart) h.late;
      late = rw (lengths_are, no_due inside.base 0 kept nones none) refl;
    }

pub returns : goal.returns
returns c =
    let inside = c.self.inside in
    let h = c.self.invariant in
    let dropped = c.free_due.ensures in
    let lengths = inside.table.lengths in
    let starts = c.make_starts_due.ensures in
    let lengths_are : c.make_starts_due.new.self.lengths ≡ kept_lengths is_unmarked c.self.inside.table.lengths c.self.inside.table.marks = starts.lengths ∙ dropped.lengths in
    let marks_are : c.make_starts_due.new.self.marks ≡ bits_of c.self.inside.late.items =
    marks_of_bits c.make_starts_due.new.self.marks inside.late.items
    (omega (arith, starts.count, ap length dropped.marks, length-replicate (length lengths) false, h.lates.same, length-bits_of inside.late.items))
    (λ k. starts.marks k ∙ ap (λ (xs : List ℕ). is_set_for xs k) c.deref.ensures.value) in
    let nones = bits_of c.fill.new.self.items in
    let zeros_are : c.fill.new.self.items ≡ replicate (vec_len c.self.inside.late) 0 = c.fill.ensures.items (λ y e. e) in
    let none : (k : ℕ) → get_or (bits_of c.fill.new.self.items) k false ≡ false = bits_of-none c.fill.new.self.items (λ k. ap (λ (xs : List ℕ). is_set_for xs k) zeros_are ∙ is_set-zeros (vec_len inside.late) k) in
    let opened : c.self.inside.is_open ≡ true = ap (λ (s : HeapState). s.is_open) c.self.view_is ∙ c.requires in
    rw (← c.self.view_is, lengths_are, marks_are) (heap_state-ended nones opened h.table.same h.lates none)
