use Rattle.std.proofs.Common.{ℕ, List, take, get_or, subst, sym}
use Rattle.std.proofs.lemmas.List.{take_more}
use Rattle.trace_text.specs.declared.trace.Command.{Command}
use Rattle.trace_text.specs.declared.trace.Command.TheVariants.{Malloc}
use Rattle.trace_report.specs.Run.{Reported}
use Rattle.trace_report.specs.LongerRuns.{Told-push}
use Rattle.heap_machine.proofs.running.run_commands.Goals as goal

pub loop-line-preserved : goal.loop-line-preserved
loop-line-preserved g c =
    let items = c.args.commands.now in
    let i = c.loop-line.line-index in
    let none : ℕ × Command = (0, Malloc 0 0) in
    let P : List (ℕ × Command) → Type 0 = λ told. Reported c.args.machine.now.state told c.step.new.machine.state c.push.new.self in
    subst P (sym (take_more items i none c.loop-line-test.true)) (
    Told-push c.args.machine.now.state (take i items) c.loop-line.machine.state c.step.new.machine.state c.loop-line.report c.push.new.self (get_or items i none) c.in-Ok.reply c.loop-line.invariant c.in-Ok.ensures.step
    (record { unused = c.in-Ok.ensures.unused; revoked = c.in-Ok.ensures.revoked }) c.in-Ok.ensures.safe c.in-Ok-push.ensures.ok
    )
