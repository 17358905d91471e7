use Rattle.std.proofs.Common.{rules, ◌≡◌, ◌*◌, length, refl, arith}
use Rattle.std.proofs.lemmas.Result.{IfOk-weaker}
use Rattle.std.specs.Prelude.{IfOk}
use Rattle.machine_steps.specs.Follow.{Follows}
use Rattle.machine_storage.specs.Storage.{state_of}
use Rattle.machine_steps.specs.Safety.{IsUnused, LeavesInUse}
use Rattle.machine_steps.specs.Step.{Step}
use Rattle.machine_storage.specs.KeptSizes.{IsStorage-after}
use Rattle.heap_machine.proofs.machine.Machine.step_with.Goals as goal

pub invariant_of-self : goal.invariant_of-self
invariant_of-self g c =
    let memory = c.invariant.ensures in
    let pages : length c.self.inside.storage.memory.granules ≡ 256 * length c.self.inside.storage.memory.dirty = omega (arith, memory.count, memory.dirty_marks) in
    let old = state_of c.self.inside.storage in
    let new = state_of c.serve.new.self in
    let command = c.args.command in
    let follows : IfOk c.serve.result (λ r. Follows old command r new) =
    IfOk-weaker c.serve.result (λ r. Step old command r new) (λ r. Follows old command r new)
    (λ r step. c.any_placement_law.ensures.steps old command r new c.self.invariant.sound.safe step) c.serve.ensures.step in
    IsStorage-after c.any_placement_law.ensures.safe c.any_placement_law.ensures.dirtied c.self.inside.storage c.serve.new.self c.args.command c.serve.result c.self.invariant pages
    c.serve.ensures.fits follows c.serve.ensures.dirty c.serve.ensures.err c.serve.ensures.base

pub returns : goal.returns
returns g c =
    let law = c.any_placement_law.ensures in
    let done = c.serve.ensures in
    let old = state_of c.self.inside.storage in
    let new = state_of c.serve.new.self in
    let command = c.args.command in
    let safe = c.self.invariant.sound.safe in
    let left = invariant_of-self g c in
    rw (← c.self.view_is) (record {
      step = done.step;
      err = search rules;
      memory = done.memory;
      ok = done.ok;
      cutting = refl;
      safe = left.sound.safe;
      unused = IfOk-weaker c.serve.result (λ r. Step old command r new) (λ r. IsUnused old command r)
          (λ r step. law.unused old command r new safe (law.steps old command r new safe step)) done.step;
      revoked = IfOk-weaker c.serve.result (λ r. Step old command r new) (λ r. LeavesInUse command r new)
          (λ r step. law.revoked old command r new safe done.fits (law.steps old command r new safe step)) done.step;
      dirty = done.dirty;
      dirtied = left.dirtied;
    })
