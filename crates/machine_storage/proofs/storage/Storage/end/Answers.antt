use Rattle.std.proofs.Common.{◌≡◌, ◌∙◌, false, refl, subst, sym}
use Rattle.heap_reply.specs.declared.reply.Trap.TheVariants.{NotOpen}
use Rattle.trace_text.specs.declared.trace.Command.TheVariants.{End}
use Rattle.machine_storage.specs.Decision.{IsDecision}
use Rattle.machine_storage.proofs.DueSweep.{end_decided, end_result}
use Rattle.machine_storage.proofs.PassedChecks.{trapped}
use Rattle.machine_storage.proofs.storage.Storage.end.Goals as goal

pub returns-then-not-is_open-clause-decision : goal.returns-then-not-is_open-clause-decision
returns-then-not-is_open-clause-decision g c =
    let closed : c.args.self.now.heap.is_open ≡ false = sym c.is_open.ensures ∙ c.if-not-is_open.true in
    subst (IsDecision c.args.self.now End) (sym c.trap.ensures) (trapped c.args.self.now End NotOpen (rw closed refl))

pub returns-then-not-has_dirty-clause-decision : goal.returns-then-not-has_dirty-clause-decision
returns-then-not-has_dirty-clause-decision g c = end_decided c.args.self.now (sym c.is_open.ensures ∙ c.if-not-is_open.false) _ c.end_clean.ensures

pub returns-clause-decision : goal.returns-clause-decision
returns-clause-decision g c = end_result c.args.self.now c.revocation.result (sym c.is_open.ensures ∙ c.if-not-is_open.false) c.revocation.ensures.decision
