-- The granules so far are written.
use Rattle.state_bytes.specs.Text.{texts_below}
use Rattle.state_bytes.specs.Writing.{IsWritten}
use Rattle.state_bytes.proofs.PieceLaws.{granule_at}
use Rattle.state_bytes.proofs.encoding.put_memory.Given as goal

abbrev pub invariant-loop-i : goal.invariant-loop-i
invariant-loop-i l = IsWritten l.fn.out 13 (texts_below (granule_at l.heap l.memory.granules) l.i) l.out
