use Rattle.std.proofs.Common.{◌≡◌}
use Rattle.mark_board.specs.Bits.{Within}
use Rattle.mark_board.specs.Board.{IsOf, IsSeat}
use Rattle.sweep_masks.specs.Claims.{HasAll}
use Rattle.sweep_masks.proofs.claims.sweep_next.Given as goal

abbrev pub invariant-loop-task : goal.invariant-loop-task
invariant-loop-task l = record {
  board : IsOf l.board l.seat;
  parts : l.seat.parts ≡ l.initial.seat.parts;
  mine : l.seat.mine ≡ l.initial.seat.mine;
  seen : Within l.initial.seat.seen l.seat.seen;
  run : HasAll l.seat.seen l.from l.task;
  sound : IsSeat l.seat;
}
