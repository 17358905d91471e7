use Rattle.std.proofs.Common.{◌<◌, ◌^◌, arith, bit_and, get_or}
use Rattle.std.proofs.lemmas.Nat.{and_le_l}
use Rattle.heap_core.proofs.PaintLaws.{painted-by, painted-mark, painted-none, word_none, word_painted}
use Rattle.mark_board.specs.Laws.{mask-whole}
use Rattle.heap_core.proofs.painting.paint_word.Goals as goal

pub mark-requires-clause-mask : goal.mark-requires-clause-mask
mark-requires-clause-mask c =
    let mask = bit_and (get_or c.args.row.now c.args.w 0) c.range_word.result in
    let fits : mask < 2 ^ 64 = omega (arith, and_le_l (get_or c.args.row.now c.args.w 0) c.range_word.result, (c.type_inv.row c.args.w).fits) in
    mask-whole c.args.board.now c.args.w mask (omega (arith, c.requires.bits, c.requires.inside)) fits

pub returns-then-mask-ne0 : goal.returns-then-mask-ne0
returns-then-mask-ne0 c =
    let mask = bit_and (get_or c.args.row.now c.args.w 0) c.range_word.result in
    let fits : mask < 2 ^ 64 = omega (arith, and_le_l (get_or c.args.row.now c.args.w 0) c.range_word.result, (c.type_inv.row c.args.w).fits) in
    let found = c.mark.ensures.found in
    let marked = painted-mark c.args.w mask found.0 c.mark.ensures.board c.mark.ensures.parts c.mark.ensures.sound
    (omega (arith, c.requires.bits, c.requires.inside)) fits found.1 found.3 found.4 c.mark.ensures.mine in
    painted-by _ _ c.args.board.now c.args.seat.now c.mark.new.seat (word_painted c.args.row.now c.args.w c.range_word.result c.args.from c.args.to c.range_word.ensures) marked

pub returns-else-mask-ne0 : goal.returns-else-mask-ne0
returns-else-mask-ne0 c =
    painted-by _ _ c.args.board.now c.args.seat.now c.args.seat.now (word_none c.args.row.now c.args.w c.range_word.result c.args.from c.args.to c.range_word.ensures c.if-mask-ne0.false) (painted-none c.args.board.now c.args.seat.now c.requires.board)
