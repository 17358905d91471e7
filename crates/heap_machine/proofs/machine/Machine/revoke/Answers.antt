use Rattle.std.proofs.Common.{◌≡◌, ◌*◌, length, arith}
use Rattle.machine_storage.specs.RevokerKept.{IsStorage-revoked}
use Rattle.heap_machine.proofs.machine.Machine.revoke.Goals as goal

pub invariant_of-self : goal.invariant_of-self
invariant_of-self c =
    let memory = c.invariant.ensures in
    let laws = c.revoker_law.ensures in
    let done = c.revoke.ensures in
    let pages : length c.self.inside.storage.memory.granules ≡ 256 * length c.self.inside.storage.memory.dirty = omega (arith, memory.count, memory.dirty_marks) in
    IsStorage-revoked laws.machine laws.marked c.self.inside.storage c.revoke.new.self c.args.command c.revoke.result c.self.invariant pages done.step done.dirty done.base

pub returns-clause-safe : goal.returns-clause-safe
returns-clause-safe c = (invariant_of-self c).sound.safe

pub returns-clause-dirtied : goal.returns-clause-dirtied
returns-clause-dirtied c = (invariant_of-self c).dirtied
