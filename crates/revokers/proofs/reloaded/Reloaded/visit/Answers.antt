use Rattle.std.proofs.Common.{List, Bool, subst, sym}
use Rattle.revokers.specs.Reloaded.{IsReloaded}
use Rattle.revokers.proofs.SeenLaws.{IsReloaded-visited}
use Rattle.revokers.proofs.reloaded.Reloaded.visit.Goals as goal

pub invariant_of-self : goal.invariant_of-self
invariant_of-self c =
    let old = c.self.inside in
    subst (λ (seen : List Bool). IsReloaded c.revoke-reply.new.self.state seen old.is_started) (sym c.mark_seen.ensures)
    (IsReloaded-visited c.barrier_law.ensures.visited old.machine.state old.seen.items old.is_started c.args.page c.revoke-reply.result c.revoke-reply.new.self.state c.self.invariant c.revoke-reply.ensures.step)

pub returns-clause-barred : goal.returns-clause-barred
returns-clause-barred c = λ started. ((invariant_of-self c).epoch started).barred
