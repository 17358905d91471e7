use Rattle.std.proofs.Common.{rules}
use Rattle.mark_board.specs.Identity.{board_id-injective}
use Rattle.mark_board.proofs.Steps.{cuts}
use Rattle.mark_board.proofs.board.Board.split.Goals as goal

pub split_seat-other-requires : goal.split_seat-other-requires
split_seat-other-requires c = (board_id-injective _ _ (search rules), search rules, cuts _ _ _ (search rules))
