use Rattle.std.proofs.Common.{◌∙◌, ◌<◌, ◌+◌, ◌*◌, false, get_or, length, refl, sym, arith}
use Rattle.state_bytes.specs.Text.{texts_below}
use Rattle.state_bytes.specs.Writing.{StandsAt}
use Rattle.state_bytes.proofs.PieceLaws.{granule_at, granules_long, memory_as_texts}
use Rattle.state_bytes.proofs.StandingLaws.{stands_begin, stands_each, stands_more}
use Rattle.state_bytes.proofs.comparing.are_granules.Goals as goal

pub loop-i-init : goal.loop-i-init
loop-i-init c = stands_begin (granule_at c.args.heap.now c.args.memory.now.granules) c.args.bytes.now 13

pub loop-i-preserved : goal.loop-i-preserved
loop-i-preserved c =
    let long = granules_long c.args.heap.now c.args.memory.now.granules c.loop-i.i in
    let granule = get_or c.args.memory.now.granules c.loop-i.i (0, false) in
    stands_more c.args.bytes.now (granule_at c.args.heap.now c.args.memory.now.granules) _ 13 (13 + 21 * c.loop-i.i) c.loop-i.i (omega (arith, long)) refl
    c.loop-i.invariant
    (c.is_granule.ensures.yes c.if-not-is_granule.false granule (c.requires.read c.loop-i.i (omega (arith, c.loop-i-test.true, c.granules-i-end.ensures))))

pub returns-then-not-is_granule-clause-no : goal.returns-then-not-is_granule-clause-no
returns-then-not-is_granule-clause-no c = λ stands.
    let long = granules_long c.args.heap.now c.args.memory.now.granules c.loop-i.i in
    let n = length c.args.memory.now.granules in
    let lt : c.loop-i.i < n = omega (arith, c.loop-i-test.true, c.granules-i-end.ensures) in
    let all : StandsAt c.args.bytes.now 13 (texts_below (granule_at c.args.heap.now c.args.memory.now.granules) n) = rw (sym (memory_as_texts c.args.heap.now c.args.memory.now.granules n refl)) stands in
    let here = stands_each c.args.bytes.now (granule_at c.args.heap.now c.args.memory.now.granules) 13 (13 + 21 * c.loop-i.i) c.loop-i.i n lt (omega (arith, long)) all in
    sym c.if-not-is_granule.true ∙ c.is_granule.ensures.no (get_or c.args.memory.now.granules c.loop-i.i (0, false)) (c.requires.read c.loop-i.i lt) here

pub returns-clause-yes : goal.returns-clause-yes
returns-clause-yes c = λ yes.
    let all = memory_as_texts c.args.heap.now c.args.memory.now.granules c.loop-i.i (omega (arith, c.loop-i-test.false, c.loop-i.auto.i-end, c.granules-i-end.ensures)) in
    rw all c.loop-i.invariant
