use Rattle.std.proofs.Common.{rules, ◌≡◌, ◌<◌, replicate}
use Rattle.mark_board.specs.declared.rule.Shape.{Shape}
use Rattle.mark_board.specs.Board.{words_for}
use Rattle.mark_board.proofs.Steps.{opens}
use Rattle.mark_board.proofs.board.Board.new.Goals as goal

pub of_words-requires : goal.of_words-requires
of_words-requires c =
    let shape : Shape = record { bits = c.args.bits; parts = c.args.parts } in
    let blank : c.as_slice.result.now ≡ replicate (words_for c.args.bits) 0 = search rules in
    let some_part : 0 < c.args.parts = search rules in
    rw blank (opens shape some_part)
