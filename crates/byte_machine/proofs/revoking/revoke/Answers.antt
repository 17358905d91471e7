use Rattle.std.proofs.Common.{◌≡◌, arith, length, sym}
use Rattle.state_bytes.specs.Text.{text_length}
use Rattle.byte_machine.proofs.RoomLaws.{room_revoked}
use Rattle.byte_machine.proofs.revoking.revoke.Goals as goal

pub encode_into-requires : goal.encode_into-requires
encode_into-requires c =
    let after : text_length (length c.revoke-reply.new.self.dirty) ≡ length c.args.state.now =
    room_revoked c.in_ok-machine.machine.state c.args.command c.in_ok-machine.machine.dirty c.revoke-reply.new.self.dirty (length c.args.state.now) c.revoke-reply.ensures.dirty c.in_ok-machine.ensures.room in
    record { room = omega (arith, c.if-out-state.false, after) }

pub returns-clause-step : goal.returns-clause-step
returns-clause-step c = record {
  from = c.in_ok-machine.machine;
  to = c.revoke-reply.new.self;
  old_is = c.in_ok-machine.ensures.told;
  new_is = record {
    state = record {
      invariant = c.encode_into.ensures.invariant;
      exact =
          c.exact_blocks_law.ensures.revoked c.in_ok-machine.machine.state c.args.command c.revoke-reply.result c.revoke-reply.new.self.state
          c.in_ok-machine.ensures.told.state.exact c.revoke-reply.ensures.step;
    };
    text = sym c.encode_into.ensures.text;
  };
  step = c.revoke-reply.ensures.step;
  dirty = c.revoke-reply.ensures.dirty;
}
