use Rattle.state_data.proofs.RecordLaws.{count-after, records, snapshot-in_order}
use Rattle.state_data.proofs.RegisterLaws.{registers-stay}
use Rattle.state_data.proofs.recording.write_step.Goals as goal

pub record_line-requires-clause-stay : goal.record_line-requires-clause-stay
record_line-requires-clause-stay g c =
    let is = snapshot-in_order c.requires.snapshot c.put_in_order.ensures in
    registers-stay c.args.command c.in-Ok.reply c.step.new.machine.state c.read_before-before.result is c.in-Ok.ensures.step c.read_before-before.ensures.value

pub follow-requires-clause-stay : goal.follow-requires-clause-stay
follow-requires-clause-stay g c =
    let is = snapshot-in_order c.requires.snapshot c.put_in_order.ensures in
    registers-stay c.args.command c.in-Ok.reply c.step.new.machine.state c.read_before-before.result is c.in-Ok.ensures.step c.read_before-before.ensures.value

pub record_line-requires-clause-tags : goal.record_line-requires-clause-tags
record_line-requires-clause-tags g c =
    let is = snapshot-in_order c.requires.snapshot c.put_in_order.ensures in
    count-after c.args.command c.in-Ok.reply c.step.new.machine.state is c.in-Ok.ensures.step

pub follow-requires-clause-count : goal.follow-requires-clause-count
follow-requires-clause-count g c =
    let is = snapshot-in_order c.requires.snapshot c.put_in_order.ensures in
    count-after c.args.command c.in-Ok.reply c.step.new.machine.state is c.in-Ok.ensures.step

pub returns : goal.returns
returns g c =
    records c.requires.snapshot c.put_in_order.ensures c.requires.safe c.in-Ok.ensures.safe c.in-Ok.ensures.step c.read_before-before.ensures.value c.in-Ok-follow.ensures c.in-Ok-record_line.ensures
