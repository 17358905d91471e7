use Rattle.std.proofs.Common.{◌≡◌, ◌+◌, length}
use Rattle.mark_board.specs.Board.{IsOf}
use Rattle.sweep_masks.specs.Work.{IsDoneBy}
use Rattle.sweep_masks.proofs.workers.collect.Given as goal

abbrev pub invariant-loop-one : goal.invariant-loop-one
invariant-loop-one g l = record {
  seat : IsOf l.shared.board.now l.done.seat;
  parts : l.done.seat.parts ≡ length l.yielded + 1;
  done : IsDoneBy l.shared l.done.seat l.done.list.items;
}
