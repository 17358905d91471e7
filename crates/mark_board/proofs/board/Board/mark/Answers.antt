use Rattle.std.proofs.Common.{rules, ◌≡◌, ℕ, ap, arith}
use Rattle.std.proofs.lemmas.Nat.Bits.{bit_at-lt}
use Rattle.mark_board.specs.Laws.{bit-without, mask-inside}
use Rattle.mark_board.specs.Identity.{board_id, board_id-injective}
use Rattle.mark_board.proofs.Steps.{marks}
use Rattle.mark_board.proofs.Views.{kept-marked}
use Rattle.mark_board.proofs.board.Board.mark.Goals as goal

pub fetch_or-found-requires : goal.fetch_or-found-requires
fetch_or-found-requires c = (
  board_id-injective _ _ (search rules),
  search rules,
  marks _ _ _ (board_id c.seat.inside.seat.table_id) _ _ _ (search rules) (search rules)
      (λ j past. mask-inside c.args.self.now c.args.word c.args.mask j c.requires.mask
      (let e : c.self.inside.table.shared.key.bits ≡ c.args.self.now.bits = search rules in omega arith))
      c.seat.invariant.2,
)

pub invariant_of-seat : goal.invariant_of-seat
invariant_of-seat c = kept-marked c.seat.inside.parts _ _ c.seat.inside.seat.me _ c.args.word c.args.mask c.fetch_or-found.result (search rules) (search rules) (search rules)
    c.fetch_or-found.ensures.2.1
    (λ j past. mask-inside c.args.self.now c.args.word c.args.mask j c.requires.mask
    (let e : c.seat.inside.seat.me.0.shape.bits ≡ c.args.self.now.bits = search rules in omega arith))
    c.seat.invariant (ap board_id c.fetch_or-found.ensures.0) c.fetch_or-found.ensures.2.2

pub returns-clause-sound : goal.returns-clause-sound
returns-clause-sound c = (invariant_of-seat c).2

pub returns-clause-fresh : goal.returns-clause-fresh
returns-clause-fresh c j =
    let k : ℕ = c.args.mask in
    let x : ℕ = c.fetch_or-found.result in
    let s = c.fetch_or-found.ensures.2.0 j in
    let o = c.seat.invariant.2.own c.args.word j in
    let e = bit-without k x j (search rules) (search rules) in
    let b = bit_at-lt k j in
    let b' = bit_at-lt x j in
    (search rules, search rules)
