use Rattle.machine_storage.specs.Passes.{IsFound}
use Rattle.machine_storage.proofs.storage.Storage.revoked_tags.Goals as goal

pub returns-clause-revoked : goal.returns-clause-revoked
returns-clause-revoked g c =
    let m = c.args.self.now in
    let storage = c.requires.storage in
    let found : IsFound m c.in-Some.found = rw c.in-Some.is at (c.requires.finds _ _ storage c.pass.ensures) in
    record {
      granules = found.masks;
      bits = c.due_registers.ensures;
      count = storage.sound.count;
      zero = storage.sound.zero;
    }
