use Rattle.std.proofs.Common.{length, rules, subst}
use Rattle.machine_storage.specs.Followed.{IsFollowed}
use Rattle.machine_storage.specs.declared.followed.Followed.{Followed}
use Rattle.byte_machine.proofs.RoomLaws.{room_after}
use Rattle.byte_machine.proofs.following.judge.Goals as goal

pub returns-in-Ok-Agrees-clause-judged : goal.returns-in-Ok-Agrees-clause-judged
returns-in-Ok-Agrees-clause-judged c = (
  record {
    from = c.in_ok-machine.machine;
    old_is = c.in_ok-machine.ensures.told;
    does =
        subst (λ (f : Followed). IsFollowed c.in_ok-machine.machine.state c.args.command c.args.answer f c.follow_alone.new.self.state) c.in-Ok-Agrees.field-0-is
        c.in-Ok-Agrees.ensures.followed;
    dirty = c.in-Ok-Agrees.ensures.dirty (search rules);
    unused = c.in-Ok-Agrees.ensures.unused (search rules);
    revoked = c.in-Ok-Agrees.ensures.revoked (search rules);
  },
  room_after c.in_ok-machine.machine.state c.args.command c.in_ok-machine.machine.dirty c.follow_alone.new.self.dirty (length c.args.state.now)
      (c.in-Ok-Agrees.ensures.dirty (search rules)) c.in_ok-machine.ensures.room,
)
