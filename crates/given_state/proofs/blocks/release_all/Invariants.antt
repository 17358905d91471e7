-- The blocks so far were given up, and the others are live in turn.
use Rattle.std.proofs.Common.{◌≡◌, drop, take}
use Rattle.given_state.specs.Given.{all_released}
use Rattle.given_state.specs.Giving.{AreLiveInTurn}
use Rattle.given_state.proofs.blocks.release_all.Given as goal

abbrev pub invariant-loop-given : goal.invariant-loop-given
invariant-loop-given l = record {
  released : l.heap ≡ all_released l.kind l.fn.heap (take l.given-index l.givens);
  rest : AreLiveInTurn l.kind l.heap (drop l.given-index l.givens);
}
