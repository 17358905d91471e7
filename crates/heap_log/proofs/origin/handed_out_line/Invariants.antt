use Rattle.std.proofs.Common.{◌≡◌, take}
use Rattle.heap_log.specs.Origin.{hands_out, last_line}
use Rattle.heap_log.proofs.origin.handed_out_line.Given as goal

abbrev pub invariant-loop-line : goal.invariant-loop-line
invariant-loop-line l = l.found ≡ last_line (hands_out l.block) (take l.line-index l.events)
