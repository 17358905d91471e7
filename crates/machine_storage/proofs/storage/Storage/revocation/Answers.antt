use Rattle.std.proofs.Common.{refl}
use Rattle.heap_model.specs.Heap.{due}
use Rattle.machine_storage.proofs.storage.Storage.revocation.Goals as goal

pub returns-clause-decision : goal.returns-clause-decision
returns-clause-decision g c =
    let m = c.args.self.now in
    let revoked = c.in_ok-revoked.ensures.revoked in
    let count = c.count.ensures (due m.heap) m.memory m.registers revoked in
    record { reply = rw (count, c.due_bytes.ensures) refl; state = refl; can = revoked; dirty = refl }
