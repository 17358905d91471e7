use Rattle.std.proofs.Common.{◌≡◌, ◌-◌, ◌+◌, ◌*◌, sym, ap, true, length, set, arith}
use Rattle.heap_model.specs.Blocks.{bytes_in}
use Rattle.heap_core.specs.Consistent.{either_mark}
use Rattle.heap_model.specs.Shadow.{bits_of}
use Rattle.heap_model.specs.ShadowLaws.{length-bits_of}
use Rattle.heap_core.specs.Table.{blocks_of, is_marked, is_unmarked}
use Rattle.heap_core.proofs.ExtentLaws.{LiesWithin-table}
use Rattle.heap_core.proofs.GivenUpLaws.{freed_of-given_up, freed_of-other, given_up}
use Rattle.heap_core.proofs.HeapLaws.{heap_state-held, heap_state-late, live_bytes-due, live_bytes-late}
use Rattle.heap_core.proofs.LateLaws.{AreLate-late, AreLate-none}
use Rattle.heap_core.proofs.QuarantineLaws.{HasMoved-held, IsTable-held}
use Rattle.heap_core.proofs.SoundLaws.{IsSound-from_table}
use Rattle.heap_core.proofs.heap.Heap.give_up.Goals as goal

pub live_at-requires-clause-bits : goal.live_at-requires-clause-bits
live_at-requires-clause-bits c = omega (arith, c.self.invariant.lates.same, length-bits_of c.self.inside.late.items, ap length c.deref.ensures.value)

pub returns-in-Err-clause-answer : goal.returns-in-Err-clause-answer
returns-in-Err-clause-answer c = rw (← c.self.view_is) (sym (freed_of-other c.args.base c.args.top c.self.invariant c.deref.ensures.value c.in-Err.ensures.other))

pub returns-in-Err-clause-sound : goal.returns-in-Err-clause-sound
returns-in-Err-clause-sound c = rw (← c.self.view_is) (IsSound-from_table c.self.invariant.table c.self.invariant.lates)

pub length_at-granules-requires : goal.length_at-granules-requires
length_at-granules-requires c = c.in-Ok.ensures.live.at.within

pub overflow_sub-self : goal.overflow_sub-self
overflow_sub-self c =
    let block = given_up c.self.invariant c.deref.ensures.value c.in-Ok.ensures.live in
    omega (arith, block.granules, c.length_at-granules.ensures)

pub mark_late-requires-clause-limit : goal.mark_late-requires-clause-limit
mark_late-requires-clause-limit c =
    let h = c.self.invariant in
    omega (arith, h.lates.same, length-bits_of c.self.inside.late.items, h.table.count, (LiesWithin-table h.table).limit)

pub mark_late-requires-clause-within : goal.mark_late-requires-clause-within
mark_late-requires-clause-within c = (given_up c.self.invariant c.deref.ensures.value c.in-Ok.ensures.live).bit

pub overflow_add-self : goal.overflow_add-self
overflow_add-self c =
    let block = given_up c.self.invariant c.deref.ensures.value c.in-Ok.ensures.live in
    omega (arith, block.granules, block.few, c.length_at-granules.ensures)

pub invariant_of-self : goal.invariant_of-self
invariant_of-self c =
    let inside = c.self.inside in
    let h = c.self.invariant in
    let block = given_up h c.deref.ensures.value c.in-Ok.ensures.live in
    let lengths = inside.table.lengths in
    let marks = inside.table.marks in
    let lates = bits_of inside.late.items in
    let start = c.in-Ok.start in
    let fewer : 16 * (c.self.inside.live_granules - c.length_at-granules.result) ≡ bytes_in (blocks_of is_unmarked inside.base 0 lengths (either_mark marks (set lates start true))) =
    omega (arith, live_bytes-late _ _ h.table.same h.lates.same block.at block.unmarked, h.live, c.length_at-granules.ensures) in
    let later : 16 * (c.self.inside.late_granules + c.length_at-granules.result) ≡ bytes_in (blocks_of is_marked inside.base 0 lengths (set lates start true)) =
    omega (arith, (HasMoved-held h.lates.same block.at block.not_late).held, h.late, c.length_at-granules.ensures) in
    record {
      table = h.table;
      lates = rw c.mark_late.ensures (AreLate-late start c.if-self.true h.lates block.at.some block.not_due);
      live = rw c.mark_late.ensures fewer;
      due = h.due;
      late = rw c.mark_late.ensures later;
    }

pub make_due-requires-clause-live : goal.make_due-requires-clause-live
make_due-requires-clause-live c = (given_up c.self.invariant c.deref.ensures.value c.in-Ok.ensures.live).not_due

pub overflow_add-self-else-self : goal.overflow_add-self-else-self
overflow_add-self-else-self c =
    let block = given_up c.self.invariant c.deref.ensures.value c.in-Ok.ensures.live in
    omega (arith, block.granules, block.few, c.length_at-granules.ensures)

pub invariant_of-self-else-self : goal.invariant_of-self-else-self
invariant_of-self-else-self c =
    let h = c.self.invariant in
    let block = given_up h c.deref.ensures.value c.in-Ok.ensures.live in
    let due = c.make_due.ensures in
    record {
      table = rw (due.lengths, due.marks) (IsTable-held c.in-Ok.start h.table);
      lates = rw (due.lengths, due.marks) (AreLate-none h.lates.same (h.lates.closed c.if-self.false));
      live = rw (due.lengths, due.marks) (omega (arith, live_bytes-due _ _ h.table.same h.lates.same block.at block.unmarked, h.live, c.length_at-granules.ensures));
      due = rw (due.lengths, due.marks) (omega (arith, (HasMoved-held h.table.same block.at block.not_due).held, h.due, c.length_at-granules.ensures));
      late = rw due.lengths h.late;
    }

pub returns-then-self-clause-answer : goal.returns-then-self-clause-answer
returns-then-self-clause-answer c =
    let block = given_up c.self.invariant c.deref.ensures.value c.in-Ok.ensures.live in
    rw (← c.self.view_is) (sym (freed_of-given_up c.self.invariant block))

pub returns-then-self-clause-held : goal.returns-then-self-clause-held
returns-then-self-clause-held c =
    let h = c.self.invariant in
    let block = given_up h c.deref.ensures.value c.in-Ok.ensures.live in
    λ _. rw (← c.self.view_is, c.mark_late.ensures) (heap_state-late c.if-self.true h.table.same h.lates block.at block.not_late)

pub returns-then-self-clause-sound : goal.returns-then-self-clause-sound
returns-then-self-clause-sound c =
    let h = c.self.invariant in
    let block = given_up h c.deref.ensures.value c.in-Ok.ensures.live in
    rw c.mark_late.ensures (IsSound-from_table h.table (AreLate-late c.in-Ok.start c.if-self.true h.lates block.at.some block.not_due))

pub returns-else-self-clause-answer : goal.returns-else-self-clause-answer
returns-else-self-clause-answer c =
    let block = given_up c.self.invariant c.deref.ensures.value c.in-Ok.ensures.live in
    rw (← c.self.view_is) (sym (freed_of-given_up c.self.invariant block))

pub returns-else-self-clause-held : goal.returns-else-self-clause-held
returns-else-self-clause-held c =
    let h = c.self.invariant in
    let block = given_up h c.deref.ensures.value c.in-Ok.ensures.live in
    λ _. rw (← c.self.view_is, c.make_due.ensures.lengths, c.make_due.ensures.marks) (heap_state-held _ _ c.if-self.false h.table.same block.at block.not_due)

pub returns-else-self-clause-sound : goal.returns-else-self-clause-sound
returns-else-self-clause-sound c =
    let h = c.self.invariant in
    rw (c.make_due.ensures.lengths, c.make_due.ensures.marks) (IsSound-from_table (IsTable-held c.in-Ok.start h.table) (AreLate-none h.lates.same (h.lates.closed c.if-self.false)))
