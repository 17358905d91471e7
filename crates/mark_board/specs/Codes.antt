-- How the values of boards and seats are stored in proofs: as the tuples of their fields.
use Rattle.std.specs.Prelude.{ℕ, List, refl}
use Rattle.std.specs.Coded.{Coded, code_by, coded×, coded_list, coded_ℕ}
use Rattle.mark_board.specs.Board.{BoardState, SeatState}
use Rattle.mark_board.specs.Identity.{BoardId, board_id_coded}

abbrev pub board_code : Coded BoardState
board_code =
    code_by (BoardId × (ℕ × ℕ)) (coded× board_id_coded (coded× coded_ℕ coded_ℕ))
    (λ b. (b.identity, (b.bits, b.parts)))
    (λ p. record { identity = p.0; bits = p.1.0; parts = p.1.1 })
    (λ _. refl)

abbrev pub seat_code : Coded SeatState
seat_code =
    code_by (BoardState × (ℕ × (List ℕ × List ℕ))) (coded× board_code (coded× coded_ℕ (coded× (coded_list coded_ℕ) (coded_list coded_ℕ))))
    (λ s. (s.board, (s.parts, (s.mine, s.seen))))
    (λ p. record { board = p.0; parts = p.1.0; mine = p.1.1.0; seen = p.1.1.1 })
    (λ _. refl)
