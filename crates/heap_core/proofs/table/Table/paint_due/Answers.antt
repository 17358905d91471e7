use Rattle.std.proofs.Common.{arith}
use Rattle.heap_core.proofs.PaintLaws.{painted-by}
use Rattle.heap_core.proofs.StoredLaws.{due_range, row_long}
use Rattle.heap_core.proofs.table.Table.paint_due.Goals as goal

pub paint_row-requires-clause-bits : goal.paint_row-requires-clause-bits
paint_row-requires-clause-bits c =
    let bits = c.requires.bits in
    let there = rw (← c.self.view_is) at bits in
    omega (arith, there, c.deref.ensures.len, row_long c.self.inside c.self.invariant)

pub paint_row-requires-clause-within : goal.paint_row-requires-clause-within
paint_row-requires-clause-within c =
    let within = c.requires.within in
    let there = rw (← c.self.view_is) at within in
    omega (arith, there, c.deref.ensures.len, row_long c.self.inside c.self.invariant)

pub returns : goal.returns
returns c =
    let within = c.requires.within in
    let there = rw (← c.self.view_is) at within in
    rw (← c.self.view_is) (painted-by _ _ c.args.board.now c.args.seat.now c.paint_row.new.seat (due_range c.self.inside c.self.invariant c.args.from c.args.to there) (rw c.deref.ensures.value at c.paint_row.ensures))
