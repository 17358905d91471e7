use Rattle.std.proofs.Common.{Some, subst, sym}
use Rattle.heap_log.specs.declared.verdict.Difference.TheVariants.{Step}
use Rattle.heap_log.specs.Judged.{IsFound}
use Rattle.heap_log.proofs.SeenLaws.{IsFound-seen}
use Rattle.heap_log.proofs.judging.follow_event.Goals as goal

pub returns-in-Seen-clause-found : goal.returns-in-Seen-clause-found
returns-in-Seen-clause-found g c =
    let s = c.args.machine.now.state in
    subst (λ event. IsFound s event c.see.result s) (sym c.in-Seen.is) (
    IsFound-seen s c.in-Seen.address c.in-Seen.tag c.in-Seen.bytes c.see.result c.see.ensures
    )

pub returns-in-MustBe-clause-found : goal.returns-in-MustBe-clause-found
returns-in-MustBe-clause-found g c =
    let s = c.args.machine.now.state in
    let told = c.in-MustBe.ensures.followed in
    subst (λ event. IsFound s event (Some (Step c.in-MustBe.reply)) c.revoke_as.new.self.state) (sym c.in-Revoked.is) (told.0, (told.1, told.2), told.3)
