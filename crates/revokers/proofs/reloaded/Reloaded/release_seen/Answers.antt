use Rattle.std.proofs.Common.{◌≡◌, ◌∙◌, ap, subst, sym, true}
use Rattle.revoker_steps.specs.Barred.{AreSeen}
use Rattle.revoker_steps.specs.declared.command.RevokerReply.TheVariants.{Released}
use Rattle.revokers.specs.Reloaded.{ReloadedState}
use Rattle.revokers.proofs.SeenLaws.{IsReloaded-released}
use Rattle.revokers.proofs.reloaded.Reloaded.release_seen.Goals as goal

pub release-bytes-requires-clause-may : goal.release-bytes-requires-clause-may
release-bytes-requires-clause-may c =
    let r = c.self.inside in
    let started : r.is_started ≡ true = ap (λ (s : ReloadedState). s.is_started) c.self.view_is ∙ c.requires.started in
    let all : AreSeen r.seen.items = subst (λ (s : ReloadedState). AreSeen s.seen) (sym c.self.view_is) c.requires.seen in
    let epoch = c.self.invariant.epoch started in
    c.barrier_law.ensures.release r.machine.state r.seen.items c.self.invariant.pages all epoch.is_open epoch.barred

pub invariant_of-self : goal.invariant_of-self
invariant_of-self c =
    let r = c.self.inside in
    IsReloaded-released r.machine.state r.seen.items r.is_started (Released c.release-bytes.result) c.release-bytes.new.machine.state c.self.invariant c.release-bytes.ensures.step
