use Rattle.std.proofs.Common.{rules, ◌∙◌}
use Rattle.mark_board.specs.Identity.{board_id, board_id-injective}
use Rattle.mark_board.proofs.Steps.{ends}
use Rattle.mark_board.proofs.board.Board.close_table.Goals as goal

pub close_with-requires : goal.close_with-requires
close_with-requires c = board_id-injective _ _ (search rules)

pub returns-clause-mine : goal.returns-clause-mine
returns-clause-mine c = (ends c.self.inside.table.shared.key _ _ c.seat.inside.seat.id (board_id c.seat.inside.seat.table_id) c.seat.inside.seat.me.0 (search rules) c.seat.invariant.2 c.close_with.ensures.values.2).0 ∙ search rules

pub returns-clause-seen : goal.returns-clause-seen
returns-clause-seen c = (ends c.self.inside.table.shared.key _ _ c.seat.inside.seat.id (board_id c.seat.inside.seat.table_id) c.seat.inside.seat.me.0 (search rules) c.seat.invariant.2 c.close_with.ensures.values.2).1 ∙ search rules
