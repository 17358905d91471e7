use Rattle.std.proofs.Common.{length}
use Rattle.byte_machine.proofs.RoomLaws.{room_after}
use Rattle.byte_machine.proofs.stepping.step_from.Goals as goal

pub returns-clause-room : goal.returns-clause-room
returns-clause-room c =
    room_after c.in_ok-machine.machine.state c.args.command c.in_ok-machine.machine.dirty c.step_alone.new.self.dirty (length c.args.state.now) c.in-Ok.ensures.dirty c.in_ok-machine.ensures.room
