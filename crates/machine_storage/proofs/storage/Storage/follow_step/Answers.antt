use Rattle.std.proofs.Common.{◌≡◌, refl, subst, sym}
use Rattle.machine_storage.specs.Decision.{left}
use Rattle.machine_storage.specs.Followed.{CanReply}
use Rattle.machine_storage.specs.Storage.{state_of}
use Rattle.machine_steps.specs.Step.{Step}
use Rattle.machine_storage.proofs.WhyLaws.{IsRefused-other, IsWhy-other}
use Rattle.machine_storage.proofs.storage.Storage.follow_step.Goals as goal

pub returns-then-differs-clause-followed : goal.returns-then-differs-clause-followed
returns-then-differs-clause-followed g c =
    let m = c.args.self.now in
    let s = state_of m in
    let decision = c.in_ok-decision.decision in
    let other = c.differs.ensures.yes c.if-differs.true in
    let can : CanReply (state_of c.args.self.now) c.args.command c.in_ok-decision.decision.reply = (left m decision.change, c.in_ok-decision.ensures.decision.step) in (
      IsRefused-other s c.args.command c.args.answer decision.reply (c.safe_reuse_law.ensures.only s c.args.command) c.requires.one can other,
      IsWhy-other s c.args.command c.args.answer decision.reply c.requires.one can other,
      refl,
    )

pub returns-clause-followed : goal.returns-clause-followed
returns-clause-followed g c =
    let s = state_of c.args.self.now in
    let new = state_of c.make.new.self in
    let decision = c.in_ok-decision.decision in
    let same : c.args.answer ≡ c.in_ok-decision.decision.reply = c.differs.ensures.no c.if-differs.false in
    let made = subst (Step s c.args.command decision.reply) (sym c.make.ensures.state) c.in_ok-decision.ensures.decision.step in
    c.any_placement_law.ensures.steps s c.args.command c.args.answer new c.requires.storage.sound.safe (subst (λ r. Step s c.args.command r new) (sym same) made)
