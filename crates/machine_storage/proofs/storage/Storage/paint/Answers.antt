use Rattle.std.proofs.Common.{◌≡◌, ◌∙◌, false, refl, subst, sym}
use Rattle.revoker_steps.specs.declared.command.RevokerCommand.TheVariants.{Paint}
use Rattle.revoker_steps.specs.declared.command.RevokerTrap.TheVariants.{Open}
use Rattle.machine_storage.specs.RevokerDecision.{IsRevokerDecision}
use Rattle.machine_storage.proofs.RevokerLaws.{revoker_decided, revoker_trapped}
use Rattle.machine_storage.proofs.storage.Storage.paint.Goals as goal

pub returns-then-is_open : goal.returns-then-is_open
returns-then-is_open c =
    let opened = sym c.is_open.ensures ∙ c.if-is_open.true in
    subst (IsRevokerDecision c.args.self.now Paint) (sym c.trap.ensures) (revoker_trapped c.args.self.now Paint Open (rw opened refl))

pub returns : goal.returns
returns c =
    let closed : c.args.self.now.heap.is_open ≡ false = sym c.is_open.ensures ∙ c.if-is_open.false in
    revoker_decided c.args.self.now Paint _ (rw closed refl) (refl, refl) closed refl
