use Rattle.std.proofs.Common.{take}
use Rattle.heap_log.proofs.OriginLaws.{KnowsLastFree}
use Rattle.heap_log.proofs.origin.freed_line.Given as goal

abbrev pub invariant-loop-line : goal.invariant-loop-line
invariant-loop-line g l = KnowsLastFree l.fn.machine.state l.block (take l.line-index l.events) l.found l.machine.state
