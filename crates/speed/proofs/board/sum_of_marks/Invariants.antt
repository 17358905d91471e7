use Rattle.mark_board.specs.Board.{IsOf}
use Rattle.speed.proofs.board.sum_of_marks.Given as goal

abbrev pub invariant-loop-k : goal.invariant-loop-k
invariant-loop-k l = IsOf l.board l.seat
