use Rattle.std.proofs.Common.{rules, ◌≡◌, length, ◌∙◌, length-set, arith}
use Rattle.std.proofs.lemmas.Grind.{same_number_lists}
use Rattle.std.specs.Slots.{slots_counts, slots_items}
use Rattle.mark_board.proofs.Rows.{copied-more}
use Rattle.mark_board.proofs.board.copied.Goals as goal

pub loop-i-preserved : goal.loop-i-preserved
loop-i-preserved c =
    let is = (slots_counts c.args.closed.now.words).0 in
    let wide = c.loop-i.invariant.0 in (
      length-set c.loop-i.row.items c.loop-i.i c.word.result ∙ wide,
      copied-more c.loop-i.row.items (slots_items c.args.closed.now.words) c.loop-i.i c.word.result (wide ∙ is) (search rules) c.word.ensures c.loop-i.invariant.1,
    )

pub returns : goal.returns
returns c =
    let is = (slots_counts c.args.closed.now.words).0 in
    let wide = c.loop-i.invariant.0 in
    let end : c.len-i-end.result ≡ length c.loop-i.row.items = search rules in
    same_number_lists c.loop-i.row.items (slots_items c.args.closed.now.words) (wide ∙ is) (λ k h. c.loop-i.invariant.1 k (let e = c.loop-i-test.false in omega arith))
