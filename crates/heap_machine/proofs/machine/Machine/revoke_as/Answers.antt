use Rattle.std.proofs.Common.{◌≡◌, ◌∙◌, ◌*◌, ap, length, arith}
use Rattle.heap_machine.specs.Storage.{machine_of}
use Rattle.machine_storage.specs.RevokerKept.{IsStorage-revoked_as}
use Rattle.machine_storage.specs.declared.storage.Storage.{Storage}
use Rattle.heap_machine.proofs.machine.Machine.revoke_as.Goals as goal

pub invariant_of-self : goal.invariant_of-self
invariant_of-self c =
    let memory = c.invariant.ensures in
    let laws = c.revoker_law.ensures in
    let done = c.revoke_as.ensures in
    let pages : length c.self.inside.storage.memory.granules ≡ 256 * length c.self.inside.storage.memory.dirty = omega (arith, memory.count, memory.dirty_marks) in
    IsStorage-revoked_as laws.machine laws.marked c.self.inside.storage c.revoke_as.new.self c.args.command c.args.answer c.revoke_as.result c.self.invariant pages
    done.followed done.dirty done.still done.base

pub returns-clause-still : goal.returns-clause-still
returns-clause-still c = λ other.
    ap (λ (m : Storage). machine_of m c.self.inside.cutting) (c.revoke_as.ensures.still other) ∙ c.self.view_is

pub returns-clause-safe : goal.returns-clause-safe
returns-clause-safe c = (invariant_of-self c).sound.safe

pub returns-clause-dirtied : goal.returns-clause-dirtied
returns-clause-dirtied c = (invariant_of-self c).dirtied
