-- The lines so far have events that follow, and the machine is as they leave it.
use Rattle.std.proofs.Common.{◌<◌, ◌+◌, ◌^◌, length}
use Rattle.trace_text.specs.Lines.{lines_of}
use Rattle.machine_steps.specs.Safety.{IsSafe}
use Rattle.agreed_log.specs.Agreed.{HaveAgreed}
use Rattle.heap_log.specs.Counting.{AreFew}
use Rattle.agreed_log.proofs.judge.Judge.lines.Given as goal

abbrev pub invariant-loop-line : goal.invariant-loop-line
invariant-loop-line g l = record {
  so_far : HaveAgreed l.first (lines_of l.text) l.number (lines_of l.rest) l.fn.self.machine.state l.self.machine.state l.self.tally;
  few : AreFew l.number l.self.tally;
  number : l.number + length l.rest < 2 ^ 32;
  safe : IsSafe l.self.machine.state;
}

abbrev pub decreases-loop-line : goal.decreases-loop-line
decreases-loop-line g l = length l.rest
