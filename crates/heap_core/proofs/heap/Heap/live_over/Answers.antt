use Rattle.std.proofs.Common.{◌≤◌, ◌+◌, ◌*◌, length, refl, ap, arith}
use Rattle.heap_core.specs.Consistent.{either_mark}
use Rattle.heap_model.specs.Shadow.{bits_of}
use Rattle.heap_core.specs.Table.{is_unmarked}
use Rattle.heap_core.proofs.OverLaws.{live_first, none_over}
use Rattle.heap_model.specs.ShadowLaws.{length-bits_of}
use Rattle.heap_core.proofs.heap.Heap.live_over.Goals as goal

pub first_past-requires-clause-bits : goal.first_past-requires-clause-bits
first_past-requires-clause-bits c =
    let h = c.self.invariant in
    omega (arith, h.lates.same, length-bits_of c.self.inside.late.items, ap length c.deref.ensures.value)

pub returns-in_err-start : goal.returns-in_err-start
returns-in_err-start c =
    let none = rw c.deref.ensures.value at c.in_err-start.ensures in
    let inside = c.self.inside in
    rw (← c.self.view_is, c.from_residual.ensures) (none_over is_unmarked inside.base inside.table.lengths (either_mark inside.table.marks (bits_of inside.late.items)) c.args.first (c.args.first + c.args.granules)
    (inside.base + 16 * c.args.first) (inside.base + 16 * (c.args.first + c.args.granules)) refl refl none (omega (arith, c.requires.some)))

pub returns : goal.returns
returns c =
    let h = c.self.invariant in
    let inside = c.self.inside in
    let room = c.requires.inside in
    let within : c.args.first + c.args.granules ≤ length c.self.inside.table.lengths = omega (arith, rw (← c.self.view_is) at room) in
    let found = rw c.deref.ensures.value at c.in_ok-start.ensures in
    rw (← c.self.view_is) (live_first (bits_of inside.late.items) (c.args.first + c.args.granules) h.table within found.0 found.1 c.block_from.ensures.base c.block_from.ensures.top)
