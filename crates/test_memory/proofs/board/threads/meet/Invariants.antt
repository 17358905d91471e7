use Rattle.std.proofs.Common.{◌≡◌}
use Rattle.mark_board.specs.Board.{IsOf}
use Rattle.test_memory.proofs.board.threads.meet.Given as goal

abbrev pub invariant-loop-turn : goal.invariant-loop-turn
invariant-loop-turn l = IsOf l.board l.seat × (l.seat.parts ≡ l.initial.seat.parts)
