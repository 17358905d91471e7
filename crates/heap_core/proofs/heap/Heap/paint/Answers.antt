use Rattle.std.proofs.Common.{◌≤◌, arith}
use Rattle.heap_core.specs.Table.{marked_count}
use Rattle.heap_core.proofs.NthLaws.{in_due, length-blocks}
use Rattle.heap_core.proofs.PaintLaws.{painted-by}
use Rattle.heap_core.proofs.ShadowLaws.{due-heap_state}
use Rattle.heap_core.proofs.heap.Heap.paint.Goals as goal

pub paint_due-requires-clause-within : goal.paint_due-requires-clause-within
paint_due-requires-clause-within c =
    let h = c.self.inside in
    let table = c.self.invariant.table in
    let blocks = c.requires.blocks in
    let last : c.args.last ≤ marked_count h.table.marks = omega (arith, rw (← c.self.view_is, due-heap_state) at blocks, length-blocks h.base 0 h.table.lengths h.table.marks table.same c.due_start-to.ensures.some) in
    let to = c.due_start-to.ensures.start last in
    to.within

pub returns : goal.returns
returns c =
    let h = c.self.inside in
    let table = c.self.invariant.table in
    let blocks = c.requires.blocks in
    let some = c.due_start-from.ensures.some in
    let last : c.args.last ≤ marked_count h.table.marks = omega (arith, rw (← c.self.view_is, due-heap_state) at blocks, length-blocks h.base 0 h.table.lengths h.table.marks table.same some) in
    let from = c.due_start-from.ensures.start (omega (arith, last, c.requires.order)) in
    let to = c.due_start-to.ensures.start last in
    rw (← c.self.view_is) (painted-by _ _ c.args.board.now c.args.seat.now c.paint_due.new.seat (in_due _ _ table some c.requires.order from to) c.paint_due.ensures)
