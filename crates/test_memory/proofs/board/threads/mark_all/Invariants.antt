use Rattle.std.proofs.Common.{◌≡◌, ◌<◌}
use Rattle.mark_board.specs.Board.{IsOf}
use Rattle.test_memory.proofs.board.threads.mark_all.Given as goal

abbrev pub invariant-loop : goal.invariant-loop
invariant-loop l = IsOf l.board l.seat × (l.seat.parts ≡ l.initial.seat.parts) × (l.word < 64)
