use Rattle.std.proofs.Common.{◌≡◌, ◌≤◌, ◌-◌}
use Rattle.mark_board.specs.Board.{IsOf, IsSeat}
use Rattle.sweep_masks.proofs.CountLaws.{HasSwept}
use Rattle.sweep_masks.proofs.workers.sweep_from.Given as goal

abbrev pub invariant-loop-next : goal.invariant-loop-next
invariant-loop-next g l = record {
  board : IsOf l.shared.board.now l.seat;
  parts : l.seat.parts ≡ l.initial.seat.parts;
  low : l.from ≤ l.next;
  high : l.next ≤ l.tasks;
  done : HasSwept l.shared l.seat l.from l.next l.found.items;
  sound : IsSeat l.seat;
}

abbrev pub decreases-loop-next : goal.decreases-loop-next
decreases-loop-next g l = l.tasks - l.next
