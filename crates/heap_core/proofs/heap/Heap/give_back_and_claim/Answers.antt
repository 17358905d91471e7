use Rattle.std.proofs.Common.{◌≡◌, ◌∙◌, refl}
use Rattle.heap_model.specs.Laws.{without_due-closed}
use Rattle.heap_model.specs.Quarantine.{without_waiting}
use Rattle.std.proofs.lemmas.Result.{err_from_is_err_and}
use Rattle.heap_core.proofs.ClaimLaws.{IsClaim-again, IsClaimable-dropped}
use Rattle.heap_core.proofs.heap.Heap.give_back_and_claim.Goals as goal

pub returns-in_err-first-clause-claim : goal.returns-in_err-first-clause-claim
returns-in_err-first-clause-claim c =
    let p = err_from_is_err_and c.from_residual.result c.from_residual.ensures.1 in
    rw p.1 (rw p.2 (c.in_err-first.ensures.reason (without_waiting c.args.self.now) refl refl), refl)

-- Nothing is in the way, so the claim is not refused.
pub returns-clause-claim : goal.returns-clause-claim
returns-clause-claim c =
    let s = c.args.self.now in
    let dropped : c.drop_due.new.self ≡ without_waiting c.args.self.now = c.drop_due.ensures ∙ without_due-closed s c.requires in
    let claim = rw dropped at c.claim.ensures.claim in
    let may = IsClaimable-dropped c.requires c.invariant.ensures c.in_ok-first.ensures.fit c.in_default.ensures in
    IsClaim-again s (without_waiting s) c.args.base c.args.top c.claim.result c.claim.new.self may claim
