-- The granules so far stand there.
use Rattle.state_bytes.specs.Text.{texts_below}
use Rattle.state_bytes.specs.Writing.{StandsAt}
use Rattle.state_bytes.proofs.PieceLaws.{granule_at}
use Rattle.state_bytes.proofs.comparing.are_granules.Given as goal

abbrev pub invariant-loop-i : goal.invariant-loop-i
invariant-loop-i l = StandsAt l.bytes 13 (texts_below (granule_at l.heap l.memory.granules) l.i)
