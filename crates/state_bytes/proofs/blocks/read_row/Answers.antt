use Rattle.std.proofs.Common.{◌∙◌, refl, sym}
use Rattle.std.proofs.lemmas.Bool.{true≢false}
use Rattle.heap_model.specs.declared.block.Kind.TheVariants.{Live, Waiting}
use Rattle.state_bytes.proofs.ReplayLaws.{live_row, other_row, row_inside, waiting_row}
use Rattle.state_bytes.proofs.blocks.read_row.Goals as goal

pub returns-then-number-eq0-clause-all : goal.returns-then-number-eq0-clause-all
returns-then-number-eq0-clause-all c m state text is =
    let inside = row_inside m c.args.heap.now c.args.i state is c.requires.inside in
    (refl, other_row m c.args.heap.now c.args.i c.number_in-number.result state is (c.number_in-number.ensures m state text inside) c.if-number-eq0.true)

pub returns-then-not-hold_at-clause-all : goal.returns-then-not-hold_at-clause-all
returns-then-not-hold_at-clause-all c m state text is =
    let inside = row_inside m c.args.heap.now c.args.i state is c.requires.inside in
    let step = waiting_row m c.args.heap.now c.hold_at.new.heap c.args.i c.length_of.result c.hold_at.result state is
    (c.length_of.ensures ∙ c.number_in-number.ensures m state text inside Waiting) c.hold_at.ensures.none c.hold_at.ensures.held in
    absurd (true≢false (sym step.0 ∙ c.if-not-hold_at.true))

pub returns-clause-all : goal.returns-clause-all
returns-clause-all c m state text is =
    let inside = row_inside m c.args.heap.now c.args.i state is c.requires.inside in
    let waits = waiting_row m c.args.heap.now c.hold_at.new.heap c.args.i c.length_of.result c.hold_at.result state is
    (c.length_of.ensures ∙ c.number_in-number.ensures m state text inside Waiting) c.hold_at.ensures.none c.hold_at.ensures.held in
    live_row m c.hold_at.new.heap c.claim_at.new.heap c.args.i c.length_of-2.result c.claim_at.result state waits.1
    (c.length_of-2.ensures ∙ c.number_in-number.ensures m state text inside Live) c.claim_at.ensures.none c.claim_at.ensures.claimed
