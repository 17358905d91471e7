-- What the lines so far give is held.
use Rattle.std.proofs.Common.{◌≡◌, take}
use Rattle.given_state.specs.Given.{MayAllHold, given_granules, given_registers}
use Rattle.given_state.specs.Giving.{FitHeap}
use Rattle.given_state.proofs.words.hold_all.Given as goal

abbrev pub invariant-loop-line : goal.invariant-loop-line
invariant-loop-line l = record {
  may : MayAllHold l.heap (take l.line-index l.givens);
  base : l.memory.base ≡ l.fn.memory.base;
  granules : l.memory.granules ≡ given_granules l.fn.memory.base l.fn.memory.granules (take l.line-index l.givens);
  registers : l.registers ≡ given_registers l.fn.registers (take l.line-index l.givens);
  fit : FitHeap l.heap l.memory l.registers;
}
