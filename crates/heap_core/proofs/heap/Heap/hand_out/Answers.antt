use Rattle.std.proofs.Common.{◌≡◌, ◌≤◌, ◌+◌, ◌*◌, ◌%◌, ◌^◌, refl, subst, arith}
use Rattle.cap_codec.specs.Rounding.{IsExact, length_for, unit_for}
use Rattle.heap_model.specs.Blocks.{Span}
use Rattle.heap_core.specs.Consistent.{either_mark}
use Rattle.heap_model.specs.Heap.{IsSound}
use Rattle.heap_model.specs.Shadow.{bits_of}
use Rattle.heap_core.specs.Table.{blocks_of, is_unmarked}
use Rattle.heap_core.proofs.HeapLaws.{granules_of_all, heap_state-set, late_blocks-set, live_blocks-put}
use Rattle.heap_core.proofs.LateLaws.{AreLate-put}
use Rattle.heap_core.proofs.PlaceLaws.{IsPlace-from_run, IsGap-from_free, multiple-from_free, too_long}
use Rattle.heap_core.proofs.RunLaws.{IsTable-set, held_blocks-set}
use Rattle.heap_model.specs.SizeLaws.{HasShape-shape}
use Rattle.heap_core.proofs.SoundLaws.{IsSound-from_table}
use Rattle.heap_core.proofs.ExtentLaws.{LiesWithin-table}
use Rattle.heap_model.specs.ExtentLaws.{LiesWithin-span}
use Rattle.heap_core.proofs.SumLaws.{bytes_in-blocks_with}
use Rattle.heap_core.proofs.heap.Heap.hand_out.Goals as goal

pub returns-then-asked-granules-clause-none : goal.returns-then-asked-granules-clause-none
returns-then-asked-granules-clause-none c =
    let long = c.if-asked-granules.true in
    (λ _ a free. too_long _ c.granules_for-asked.ensures (omega arith) (rw (← c.self.view_is) at free), λ _. refl)

pub returns-then-asked-granules-clause-sound : goal.returns-then-asked-granules-clause-sound
returns-then-asked-granules-clause-sound c = rw (← c.self.view_is) (IsSound-from_table c.self.invariant.table c.self.invariant.lates)

pub returns-in_default-clause-none : goal.returns-in_default-clause-none
returns-in_default-clause-none c =
    let h = c.self.invariant in
    let shape = c.shape_for-shape in
    let has = HasShape-shape c.args.size _ _ _ c.granules_for-asked.ensures shape.ensures.some shape.ensures.granules shape.ensures.unit in (
      λ _ a given.
          let free = rw (← c.self.view_is) at given in
          c.put.ensures.none c.in_default.is _ (IsGap-from_free h.table h.lates has free) (multiple-from_free _ h.table has free),
      λ _. refl,
    )

pub returns-in_default-clause-sound : goal.returns-in_default-clause-sound
returns-in_default-clause-sound c = rw (c.put.ensures.unchanged c.in_default.is) (IsSound-from_table c.self.invariant.table c.self.invariant.lates)

pub overflow_add-self : goal.overflow_add-self
overflow_add-self c =
    let h = c.self.invariant in
    let run = c.in-Some.ensures.first.run in
    omega (arith, granules_of_all h, run.end, h.table.count, (LiesWithin-table h.table).limit)

pub invariant_of-self-2 : goal.invariant_of-self-2
invariant_of-self-2 c =
    let h = c.self.invariant in
    let put = c.in-Some.ensures in
    let n = c.shape_for-shape.result.granules in
    let run = put.first.run in
    let block : Span = (c.self.inside.base + 16 * c.in-Some.start, 16 * n) in
    let live = blocks_of is_unmarked c.self.inside.base 0 c.self.inside.table.lengths (either_mark c.self.inside.table.marks (bits_of c.self.inside.late.items)) in
    record {
      table = rw (put.lengths, put.marks) (IsTable-set h.table run);
      lates = rw (put.lengths, put.marks) (AreLate-put h.lates run);
      live = rw (put.lengths, put.marks, live_blocks-put _ h.table.same h.lates run) (omega (arith, bytes_in-blocks_with block live, h.live));
      due = rw (put.lengths, put.marks, held_blocks-set _ _ run) h.due;
      late = rw (put.lengths, late_blocks-set _ h.lates run) h.late;
    }

pub returns-clause-place : goal.returns-clause-place
returns-clause-place c =
    let shape = c.shape_for-shape in
    let has = HasShape-shape c.args.size _ _ _ c.granules_for-asked.ensures shape.ensures.some shape.ensures.granules shape.ensures.unit in
    rw (← c.self.view_is) (IsPlace-from_run c.self.invariant.table c.self.invariant.lates has c.in-Some.ensures.first)

pub returns-clause-none : goal.returns-clause-none
returns-clause-none c = (λ e. cc, λ none. absurd (none _ (returns-clause-place c).free))

pub returns-clause-live : goal.returns-clause-live
returns-clause-live c =
    let put = c.in-Some.ensures in
    let shape = c.shape_for-shape in
    let has = HasShape-shape c.args.size _ _ _ c.granules_for-asked.ensures shape.ensures.some shape.ensures.granules shape.ensures.unit in
    rw (← c.self.view_is, has.length, put.lengths, put.marks) (heap_state-set c.self.invariant.table.same c.self.invariant.lates put.first.run)

pub returns-clause-sound : goal.returns-clause-sound
returns-clause-sound c =
    let put = c.in-Some.ensures in
    rw (put.lengths, put.marks) (IsSound-from_table (IsTable-set c.self.invariant.table put.first.run) (AreLate-put c.self.invariant.lates put.first.run))

pub returns-clause-exact : goal.returns-clause-exact
returns-clause-exact c =
    let free = (returns-clause-place c).free in
    let shape = c.shape_for-shape.ensures in
    let sound : IsSound c.args.self.now = rw (← c.self.view_is) (IsSound-from_table c.self.invariant.table c.self.invariant.lates) in
    let within = LiesWithin-span c.args.self.now.base sound.pages sound.size sound.place in
    let base = c.self.inside.base + 16 * c.in-Some.start in
    let length = length_for (16 * c.granules_for-asked.result) in
    let unit : base % unit_for (16 * c.granules_for-asked.result) ≡ 0 = rw c.granules_for-asked.ensures free.unit in
    let end : base + length ≤ 2 ^ 64 = rw c.granules_for-asked.ensures (omega (arith, free.end, within.end, sound.bytes)) in
    let top : base + length ≡ c.from.result + c.from-2.result = omega (arith, shape.granules, c.from.ensures, c.from-2.ensures) in
    subst (IsExact base) top (shape.exact base unit end)
