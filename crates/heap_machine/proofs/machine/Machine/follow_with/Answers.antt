use Rattle.std.proofs.Common.{◌≡◌, ◌*◌, ap, length, refl, arith}
use Rattle.heap_machine.specs.Storage.{machine_of}
use Rattle.machine_storage.specs.Storage.{state_of}
use Rattle.machine_steps.specs.Safety.{IsUnused, LeavesInUse}
use Rattle.machine_storage.specs.declared.storage.Storage.{Storage}
use Rattle.machine_storage.specs.KeptSizes.{Agrees-holds, IsStorage-followed}
use Rattle.heap_machine.proofs.machine.Machine.follow_with.Goals as goal

pub invariant_of-self : goal.invariant_of-self
invariant_of-self g c =
    let memory = c.invariant.ensures in
    let laws = c.any_placement_law.ensures in
    let done = c.follow.ensures in
    let pages : length c.self.inside.storage.memory.granules ≡ 256 * length c.self.inside.storage.memory.dirty = omega (arith, memory.count, memory.dirty_marks) in
    IsStorage-followed laws.safe laws.dirtied c.self.inside.storage c.follow.new.self c.args.command c.args.answer c.follow.result c.self.invariant pages
    done.fits done.followed done.dirty done.still done.base

pub returns : goal.returns
returns g c =
    let law = c.any_placement_law.ensures in
    let done = c.follow.ensures in
    let old = state_of c.self.inside.storage in
    let new = state_of c.follow.new.self in
    let command = c.args.command in
    let answer = c.args.answer in
    let safe = c.self.invariant.sound.safe in
    let left = invariant_of-self g c in
    rw (← c.self.view_is) (record {
      followed = done.followed;
      still = λ other. ap (λ (m : Storage). machine_of m c.self.inside.cutting) (done.still other);
      memory = done.memory;
      ok = done.ok;
      cutting = refl;
      safe = left.sound.safe;
      unused = Agrees-holds (IsUnused old command answer) old new command answer c.follow.result done.followed
          (λ follows. law.unused old command answer new safe follows);
      revoked = Agrees-holds (LeavesInUse command answer new) old new command answer c.follow.result done.followed
          (λ follows. law.revoked old command answer new safe done.fits follows);
      dirty = done.dirty;
      dirtied = left.dirtied;
    })
