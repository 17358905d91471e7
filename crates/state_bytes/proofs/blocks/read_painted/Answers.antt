use Rattle.std.proofs.Common.{◌∙◌, refl, sym}
use Rattle.std.proofs.lemmas.Bool.{true≢false}
use Rattle.state_bytes.proofs.ExactLaws.{exact_begun}
use Rattle.state_bytes.proofs.StartReplay.{closed_start, open_start}
use Rattle.state_bytes.proofs.blocks.read_painted.Goals as goal

pub returns-then-not-is_open-clause-all : goal.returns-then-not-is_open-clause-all
returns-then-not-is_open-clause-all c m e text start = (refl, closed_start m c.args.heap.now c.args.is_open e start c.if-not-is_open.true)

pub returns-then-not-hold_painted-clause-all : goal.returns-then-not-hold_painted-clause-all
returns-then-not-hold_painted-clause-all c m e text start =
    let step = c.hold_painted.ensures.all m e text start.empty in
    absurd (true≢false (sym step.0 ∙ c.if-not-hold_painted.true))

pub returns-clause-all : goal.returns-clause-all
returns-clause-all c m e text start =
    let step = c.hold_painted.ensures.all m e text start.empty in
    (refl, open_start m c.args.heap.now c.hold_painted.new.heap _ c.args.is_open start c.if-not-is_open.false step.1 c.begin_epoch.ensures.begun)

pub returns-clause-exact : goal.returns-clause-exact
returns-clause-exact c = λ exact. exact_begun c.hold_painted.new.heap _ c.begin_epoch.ensures.begun (c.hold_painted.ensures.exact exact)
