use Rattle.std.proofs.Common.{rules, ◌≤◌, ap, subst, ◌∙◌, arith}
use Rattle.mark_board.specs.declared.rule.View.{View}
use Rattle.mark_board.specs.Identity.{board_id, board_id-injective}
use Rattle.mark_board.specs.Rule.{settled_view}
use Rattle.mark_board.proofs.Steps.{settles, unites}
use Rattle.mark_board.proofs.Views.{kept-joined}
use Rattle.mark_board.proofs.board.Board.join.Goals as goal

pub join_seat-requires : goal.join_seat-requires
join_seat-requires c = (board_id-injective _ _ (search rules), board_id-injective _ _ (search rules), search rules, search rules, unites _ _ _ _ _ (search rules))

pub load-requires : goal.load-requires
load-requires c =
    let parts = ap (λ m. m.0.parts) c.join_seat.ensures.2 in
    let part = c.a.invariant.2.some in
    (c.join_seat.ensures.0 ∙ board_id-injective _ _ (search rules), search rules, settles _ _ _ _ (omega arith))

pub invariant_of-result : goal.invariant_of-result
invariant_of-result c =
    let was = c.join_seat.ensures.2 in
    let is = c.load.ensures.2.2 in
    kept-joined c.a.inside.parts c.b.inside.parts _ _ _ c.a.inside.seat.me _ c.b.inside.seat.me (search rules)
    (subst (λ (u : View). u.parts ≤ u.shape.parts) (ap (λ m. m.0) was) c.load.ensures.2.1)
    c.a.invariant c.b.invariant (ap board_id (c.load.ensures.0 ∙ c.join_seat.ensures.0)) (is ∙ ap (λ m. (settled_view m.0, m.1)) was)

pub returns-clause-sound : goal.returns-clause-sound
returns-clause-sound c = (invariant_of-result c).2
