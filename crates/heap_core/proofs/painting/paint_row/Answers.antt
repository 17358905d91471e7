use Rattle.heap_core.proofs.PaintLaws.{painted-both, painted-by, word_more}
use Rattle.heap_core.proofs.painting.paint_row.Goals as goal

pub loop-w-preserved : goal.loop-w-preserved
loop-w-preserved c =
    painted-by _ _ c.args.board.now c.args.seat.now c.paint_word.new.seat (word_more c.args.row.now c.loop-w.w c.args.from c.args.to)
    (painted-both _ _ c.args.board.now c.args.seat.now c.loop-w.seat c.paint_word.new.seat c.loop-w.invariant c.paint_word.ensures)
