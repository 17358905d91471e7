-- The lines so far give each word once, and what they give was noted.
use Rattle.std.proofs.Common.{take}
use Rattle.given_state.specs.Given.{AreGivenOnce}
use Rattle.given_state.specs.Giving.{AreNoted}
use Rattle.given_state.proofs.once.check_once.Given as goal

abbrev pub invariant-loop-line : goal.invariant-loop-line
invariant-loop-line l = record { once : AreGivenOnce (take l.line-index l.givens); noted : AreNoted l.noted (take l.line-index l.givens) }
