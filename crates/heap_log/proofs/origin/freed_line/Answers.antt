use Rattle.std.proofs.Common.{ℕ, List, arith, refl, subst}
use Rattle.std.proofs.lemmas.List.{take_all}
use Rattle.log_text.specs.declared.log.Event.{Event}
use Rattle.heap_log.specs.Origin.{IsLastFree}
use Rattle.heap_log.proofs.OriginLaws.{KnowsLastFree-more}
use Rattle.heap_log.proofs.origin.freed_line.Goals as goal

pub loop-line-init : goal.loop-line-init
loop-line-init g c = record { follow = refl; last = IsLastFree.none }

pub loop-line-preserved : goal.loop-line-preserved
loop-line-preserved g c =
    KnowsLastFree-more c.safe_log_law.ensures.one c.args.machine.now.state c.args.block c.args.events.now c.requires.follow.0 c.loop-line.line-index _ c.frees.result
    c.loop-line.found c.noted-found.result c.loop-line.machine.state c.follow_event.new.machine.state c.in_ok-follow_event.field-0 c.loop-line-test.true
    c.requires.follow.1 c.loop-line.invariant c.frees.ensures c.noted-found.ensures c.in_ok-follow_event.ensures.found

pub returns-clause-last : goal.returns-clause-last
returns-clause-last g c =
    let whole = take_all c.loop-line.line-index c.args.events.now (omega (arith, c.loop-line-test.false)) in
    subst (λ (xs : List (ℕ × Event)). IsLastFree c.args.machine.now.state c.args.block xs c.loop-line.found c.loop-line.machine.state) whole c.loop-line.invariant.last
