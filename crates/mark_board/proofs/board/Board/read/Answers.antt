use Rattle.std.proofs.Common.{rules, ap, ◌∙◌}
use Rattle.std.proofs.lemmas.Nat.{or_comm}
use Rattle.std.proofs.lemmas.Nat.Bits.{bit_at-zero}
use Rattle.mark_board.specs.Bits.{with_bits}
use Rattle.mark_board.specs.Laws.{gains-none}
use Rattle.mark_board.specs.Identity.{board_id, board_id-injective}
use Rattle.mark_board.proofs.Steps.{marks}
use Rattle.mark_board.proofs.Views.{kept-marked}
use Rattle.mark_board.proofs.board.Board.read.Goals as goal

pub fetch_or-requires : goal.fetch_or-requires
fetch_or-requires c = (
  board_id-injective _ _ (search rules),
  search rules,
  marks _ _ _ (board_id c.seat.inside.seat.table_id) _ _ _ (search rules) (search rules) (λ j _. bit_at-zero j) c.seat.invariant.2,
)

pub invariant_of-seat : goal.invariant_of-seat
invariant_of-seat c = kept-marked c.seat.inside.parts _ _ c.seat.inside.seat.me _ c.args.word 0 c.fetch_or.result (search rules) (search rules) (search rules)
    c.fetch_or.ensures.2.1 (λ j _. bit_at-zero j) c.seat.invariant (ap board_id c.fetch_or.ensures.0) c.fetch_or.ensures.2.2

pub returns-clause-sound : goal.returns-clause-sound
returns-clause-sound c = (invariant_of-seat c).2

pub returns-clause-mine : goal.returns-clause-mine
returns-clause-mine c = ap (λ m. m.0.mine) c.fetch_or.ensures.2.2 ∙ gains-none c.seat.inside.seat.me.0.mine c.args.word ∙ ap (λ s. s.mine) c.seat.view_is

pub returns-clause-seen : goal.returns-clause-seen
returns-clause-seen c = ap (λ m. m.0.seen) c.fetch_or.ensures.2.2
    ∙ ap (with_bits c.seat.inside.seat.me.0.seen c.args.word) (or_comm c.fetch_or.result 0)
    ∙ ap (λ s. with_bits s.seen c.args.word c.fetch_or.result) c.seat.view_is
