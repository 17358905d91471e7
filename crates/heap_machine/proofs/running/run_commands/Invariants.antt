-- The commands so far were run and told.
use Rattle.std.proofs.Common.{take}
use Rattle.trace_report.specs.Run.{Reported}
use Rattle.heap_machine.proofs.running.run_commands.Given as goal

abbrev pub invariant-loop-line : goal.invariant-loop-line
invariant-loop-line g l = Reported l.fn.machine.state (take l.line-index l.commands) l.machine.state l.report
