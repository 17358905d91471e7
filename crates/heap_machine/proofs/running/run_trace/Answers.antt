use Rattle.std.proofs.Common.{rules}
use Rattle.trace_text.specs.Reading.{script_of}
use Rattle.trace_report.specs.LongerRuns.{IsOutcome-told}
use Rattle.heap_machine.proofs.running.run_trace.Goals as goal

pub returns : goal.returns
returns g c =
    IsOutcome-told (script_of c.args.trace.now) _ c.in-Ok.machine.state c.run_commands.new.machine.state c.in_ok-lines.lines (search rules) c.in-Ok.ensures.first (search rules) (search rules) (search rules) (search rules)
