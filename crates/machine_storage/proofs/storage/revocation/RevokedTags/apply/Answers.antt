use Rattle.machine_storage.proofs.SweepStep.{AreApplied-masks}
use Rattle.machine_storage.proofs.storage.revocation.RevokedTags.apply.Goals as goal

pub returns-clause-taken : goal.returns-clause-taken
returns-clause-taken c =
    λ held revoked.
    let tags = c.args.self.now in
    AreApplied-masks held c.args.memory.now c.clear_tags.new.self c.args.registers.now c.clear_tags-2.new.self tags revoked
    c.clear_tags.ensures.base c.clear_tags.ensures.dirty (rw c.deref.ensures.value at c.clear_tags.ensures.granules)
    c.clear_tags-2.ensures.count c.clear_tags-2.ensures.zero c.clear_tags-2.ensures.cells
