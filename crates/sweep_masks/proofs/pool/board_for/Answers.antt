use Rattle.std.proofs.Common.{arith}
use Rattle.sweep_masks.proofs.TaskLaws.{board_parts, board_size}
use Rattle.sweep_masks.proofs.pool.board_for.Goals as goal

pub unreachable-requires : goal.unreachable-requires
unreachable-requires c =
    let some = c.tasks_of.ensures.some in
    let most = c.tasks_of.ensures.most in
    let only = c.new.ensures.memory (board_size c.tasks_of.result (omega arith) (omega arith)) (board_parts c.args.workers c.requires.some c.requires.most) in
    let is = rw c.in-Err.is at only in
    c.in_default.not-Memory is
