use Rattle.std.proofs.Common.{◌≡◌, ◌∙◌, ap, false, length, refl, replicate, rules}
use Rattle.revoker_steps.specs.Barred.{after_start}
use Rattle.revokers.specs.Reloaded.{ReloadedState}
use Rattle.revokers.proofs.SeenLaws.{IsReloaded-started, start-after}
use Rattle.revokers.proofs.reloaded.Reloaded.start_closed.Goals as goal

pub invariant_of-self : goal.invariant_of-self
invariant_of-self c =
    let s = c.self.inside.machine.state in
    let new = c.untag_registers-cleared.new.machine.state in
    let closed : s.heap.is_open ≡ false = ap (λ (r : ReloadedState). r.machine.state.heap.is_open) c.self.view_is ∙ c.requires.closed in
    let after : new ≡ after_start s = start-after c.reloaded_law.ensures.start s c.revoke-reply.new.self.state c.revoke-reply.result c.tell.new.acts.items c.untag_registers-cleared.result new c.untag_registers-cleared.new.acts.items
    c.invariant.ensures.sound.count closed c.revoke-reply.ensures.step c.untag_registers-cleared.ensures.untags in
    let unseen : c.fill.new.self.items ≡ replicate (length c.self.inside.seen.items) false = search rules in
    IsReloaded-started c.barrier_law.ensures.start s new c.self.inside.seen.items c.fill.new.self.items c.self.invariant.pages after unseen

pub returns-clause-after : goal.returns-clause-after
returns-clause-after c =
    let s = c.self.inside.machine.state in
    let new = c.untag_registers-cleared.new.machine.state in
    let closed : s.heap.is_open ≡ false = ap (λ (r : ReloadedState). r.machine.state.heap.is_open) c.self.view_is ∙ c.requires.closed in
    start-after c.reloaded_law.ensures.start s c.revoke-reply.new.self.state c.revoke-reply.result c.tell.new.acts.items c.untag_registers-cleared.result new c.untag_registers-cleared.new.acts.items
    c.invariant.ensures.sound.count closed c.revoke-reply.ensures.step c.untag_registers-cleared.ensures.untags
    ∙ ap (λ (r : ReloadedState). after_start r.machine.state) c.self.view_is

pub returns-clause-barred : goal.returns-clause-barred
returns-clause-barred c = ((invariant_of-self c).epoch refl).barred
