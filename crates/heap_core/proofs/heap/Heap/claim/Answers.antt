use Rattle.std.proofs.Common.{◌≡◌, ◌+◌, ◌*◌, refl, arith}
use Rattle.heap_model.specs.Blocks.{Span}
use Rattle.heap_core.specs.Consistent.{either_mark}
use Rattle.heap_model.specs.Shadow.{bits_of}
use Rattle.heap_core.specs.Table.{blocks_of, is_unmarked}
use Rattle.std.proofs.lemmas.Result.{err_from_is_err_and}
use Rattle.heap_core.proofs.ClaimLaws.{AreGranules-fit, IsClaimable-gap, IsGap-unused, heap_state-claimed}
use Rattle.heap_core.proofs.ExtentLaws.{LiesWithin-table}
use Rattle.heap_core.proofs.HeapLaws.{granules_of_all, late_blocks-set, live_blocks-put}
use Rattle.heap_core.proofs.LateLaws.{AreLate-put}
use Rattle.heap_core.proofs.RunLaws.{IsTable-set, held_blocks-set}
use Rattle.heap_core.proofs.SoundLaws.{IsSound-from_table}
use Rattle.heap_core.proofs.SumLaws.{bytes_in-blocks_with}
use Rattle.heap_core.proofs.heap.Heap.claim.Goals as goal

pub returns-in_err-first-clause-claim : goal.returns-in_err-first-clause-claim
returns-in_err-first-clause-claim c =
    let p = err_from_is_err_and c.from_residual.result c.from_residual.ensures.1 in
    rw p.1 (rw p.2 (c.in_err-first.ensures.reason c.args.self.now refl refl), refl)

pub in_the_way-requires-clause-taken : goal.in_the_way-requires-clause-taken
in_the_way-requires-clause-taken c =
    let h = c.self.invariant in
    let fit = c.in_ok-first.ensures.fit in
    let here = rw (← c.self.view_is) at fit in
    rw (c.put_at.ensures.unchanged c.if-not-put_at.true) (λ may. c.put_at.ensures.taken c.if-not-put_at.true
    (IsGap-unused h.table h.lates (AreGranules-fit here) may))

pub returns-then-not-put_at-clause-claim : goal.returns-then-not-put_at-clause-claim
returns-then-not-put_at-clause-claim c =
    let same : c.put_at.new.self ≡ c.self.inside.table = c.put_at.ensures.unchanged c.if-not-put_at.true in
    let reason = rw (same, c.self.view_is) at c.in_the_way.ensures in
    rw (same, c.self.view_is) (reason, refl)

pub overflow_add-self : goal.overflow_add-self
overflow_add-self c =
    let h = c.self.invariant in
    let run = c.put_at.ensures.gap c.if-not-put_at.false in
    omega (arith, granules_of_all h, run.end, h.table.count, (LiesWithin-table h.table).limit)

pub invariant_of-self-2 : goal.invariant_of-self-2
invariant_of-self-2 c =
    let h = c.self.invariant in
    let put = c.put_at.ensures in
    let lengths = put.lengths c.if-not-put_at.false in
    let marks = put.marks c.if-not-put_at.false in
    let run = put.gap c.if-not-put_at.false in
    let block : Span = (c.self.inside.base + 16 * c.in_ok-first.first, 16 * c.in_ok-first.granules) in
    let live = blocks_of is_unmarked c.self.inside.base 0 c.self.inside.table.lengths (either_mark c.self.inside.table.marks (bits_of c.self.inside.late.items)) in
    record {
      table = rw (lengths, marks) (IsTable-set h.table run);
      lates = rw (lengths, marks) (AreLate-put h.lates run);
      live = rw (lengths, marks, live_blocks-put _ h.table.same h.lates run) (omega (arith, bytes_in-blocks_with block live, h.live));
      due = rw (lengths, marks, held_blocks-set _ _ run) h.due;
      late = rw (lengths, late_blocks-set _ h.lates run) h.late;
    }

pub returns-clause-claim : goal.returns-clause-claim
returns-clause-claim c =
    let h = c.self.invariant in
    let put = c.put_at.ensures in
    let fit = c.in_ok-first.ensures.fit in
    let here = rw (← c.self.view_is) at fit in
    let are = AreGranules-fit here in
    rw (← c.self.view_is, put.lengths c.if-not-put_at.false, put.marks c.if-not-put_at.false) (
      IsClaimable-gap _ h.table are (put.gap c.if-not-put_at.false) fit.could.exact,
      heap_state-claimed h.table.same h.lates are (put.gap c.if-not-put_at.false),
    )

pub returns-clause-sound : goal.returns-clause-sound
returns-clause-sound c =
    let h = c.self.invariant in
    let put = c.put_at.ensures in
    let run = put.gap c.if-not-put_at.false in
    rw (put.lengths c.if-not-put_at.false, put.marks c.if-not-put_at.false) (IsSound-from_table (IsTable-set h.table run) (AreLate-put h.lates run))
