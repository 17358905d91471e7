use Rattle.std.proofs.Common.{◌≡◌, ◌*◌, ◌∙◌, ◌&&◌, Bool, ap, arith, length, subst, sym, true}
use Rattle.heap_model.specs.Heap.{HeapState}
use Rattle.machine_steps.specs.Dirty.{HasPages}
use Rattle.revoker_steps.specs.Barred.{LoadsSeen}
use Rattle.revokers.specs.Reloaded.{IsReloaded, ReloadedState}
use Rattle.revokers.proofs.SeenLaws.{IsReloaded-done}
use Rattle.revokers.proofs.reloaded.Reloaded.step_seen.Goals as goal

pub invariant_of-self-2 : goal.invariant_of-self-2
invariant_of-self-2 g c =
    let r = c.self.inside in
    let s = r.machine.state in
    let new = c.step.new.machine in
    let command = c.args.command in
    let before = c.invariant-2.ensures in
    let after = c.invariant-3.ensures in
    let safe = c.invariant.ensures.sound.safe in
    let opened : new.state.heap.is_open ≡ c.is_open.result = sym (c.is_open.ensures ∙ ap (λ (h : HeapState). h.is_open) c.heap.ensures) in
    let pages : HasPages s r.machine.dirty = omega (arith, before.count, before.dirty_marks, ap length c.memory.ensures.granules, ap length c.memory.ensures.dirty) in
    let marks : HasPages new.state new.dirty = omega (arith, after.count, after.dirty_marks, ap length c.memory-2.ensures.granules, ap length c.memory-2.ensures.dirty) in
    let loads : r.is_started ≡ true → LoadsSeen s r.seen.items command =
    subst (λ (v : ReloadedState). v.is_started ≡ true → LoadsSeen v.machine.state v.seen command) (sym c.self.view_is) c.requires.loads in
    subst (λ (b : Bool). IsReloaded new.state r.seen.items (r.is_started && b)) opened
    (IsReloaded-done c.barrier_law.ensures.kept s r.machine.dirty r.seen.items r.is_started command c.in_ok-reply.reply new.state new.dirty c.self.invariant safe c.fit.ensures loads
    (c.any_placement_law.ensures.steps s command c.in_ok-reply.reply new.state safe c.in_ok-reply.ensures.step) pages marks c.in_ok-reply.ensures.dirty)

pub returns-clause-barred : goal.returns-clause-barred
returns-clause-barred g c = λ started. ((invariant_of-self-2 g c).epoch started).barred
