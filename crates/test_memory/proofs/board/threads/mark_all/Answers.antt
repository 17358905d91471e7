use Rattle.std.proofs.Common.{arith}
use Rattle.mark_board.specs.Laws.{mask-whole}
use Rattle.test_memory.proofs.board.threads.mark_all.Goals as goal

pub mark-requires-clause-mask : goal.mark-requires-clause-mask
mark-requires-clause-mask c =
    let is = c.requires.bits in
    let below = c.loop.invariant.2 in
    mask-whole c.args.board.now c.loop.word 18446744073709551615 (omega arith) (omega arith)
