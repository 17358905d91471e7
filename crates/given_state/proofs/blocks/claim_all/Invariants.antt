-- The blocks so far may lie there, and the heap has them.
use Rattle.std.proofs.Common.{◌≡◌, take}
use Rattle.given_state.specs.Given.{MayAllLie, all_claimed}
use Rattle.given_state.proofs.blocks.claim_all.Given as goal

abbrev pub invariant-loop-line : goal.invariant-loop-line
invariant-loop-line l = record {
  may : MayAllLie l.fn.heap (take l.line-index l.givens);
  claimed : l.heap ≡ all_claimed l.fn.heap (take l.line-index l.givens);
}
