use Rattle.std.proofs.Common.{ℕ, List, take, get_or, subst, sym}
use Rattle.std.proofs.lemmas.List.{take_more}
use Rattle.trace_text.specs.declared.trace.Command.{Command}
use Rattle.trace_text.specs.declared.trace.Command.TheVariants.{Malloc}
use Rattle.state_data.specs.Recording.{Recorded}
use Rattle.state_data.proofs.RecordLaws.{Recorded-push}
use Rattle.state_data.proofs.recording.write_commands.Goals as goal

pub loop-line-preserved : goal.loop-line-preserved
loop-line-preserved g c =
    let items = c.args.commands.now in
    let i = c.loop-line.line-index in
    let none : ℕ × Command = (0, Malloc 0 0) in
    let P : List (ℕ × Command) → Type 0 = λ told. Recorded c.args.machine.now.state told c.write_step.new.machine.state c.write_step.new.snapshot c.args.so_far.text.items c.in_ok-so_far.so_far.text.items in
    subst P (sym (take_more items i none c.loop-line-test.true)) (
    Recorded-push c.args.machine.now.state (take i items) c.loop-line.machine.state c.write_step.new.machine.state c.loop-line.snapshot c.write_step.new.snapshot c.args.so_far.text.items c.loop-line.so_far.text.items c.in_ok-so_far.so_far.text.items
    (get_or items i none) c.loop-line.invariant c.in_ok-so_far.ensures
    )
