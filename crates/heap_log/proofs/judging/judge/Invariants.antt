-- The events so far follow, and the machine is as they leave it.
use Rattle.std.proofs.Common.{take}
use Rattle.std.specs.Prelude.{All}
use Rattle.machine_steps.specs.Safety.{IsSafe}
use Rattle.heap_log.specs.Judged.{AllFollow, FitsListed}
use Rattle.heap_log.proofs.judging.judge.Given as goal

abbrev pub invariant-loop-count : goal.invariant-loop-count
invariant-loop-count g l = record {
  follow : AllFollow l.fn.machine.state (take l.count l.events) l.machine.state;
  safe : IsSafe l.fn.machine.state → IsSafe l.machine.state;
  fits : All FitsListed (take l.count l.events);
}
