use Rattle.given_state.specs.Given.{block_in, with_claimed}
use Rattle.given_state.proofs.LineLaws.{LacksPlaceFirst-at, MayAllLie-more, fold_next}
use Rattle.given_state.proofs.blocks.claim_all.Goals as goal

pub returns-in-Err-clause-first : goal.returns-in-Err-clause-first
returns-in-Err-clause-first c =
    LacksPlaceFirst-at c.args.heap.now c.args.givens.now c.loop-line.line-index _ c.loop-line.heap c.in-Err.reason c.loop-line-test.true
    c.loop-line.invariant.may c.loop-line.invariant.claimed c.in-Err.ensures.reason

pub loop-line-preserved : goal.loop-line-preserved
loop-line-preserved c = record {
  may = MayAllLie-more c.args.heap.now c.args.givens.now c.loop-line.line-index _ c.loop-line.heap c.loop-line-test.true
      c.loop-line.invariant.may c.loop-line.invariant.claimed c.in_default.ensures.may;
  claimed = fold_next (λ h line. with_claimed h (block_in line.1)) c.args.heap.now c.args.givens.now c.loop-line.line-index _ c.loop-line.heap c.claim_given.new.heap
      c.loop-line-test.true c.loop-line.invariant.claimed c.in_default.ensures.claimed;
}
