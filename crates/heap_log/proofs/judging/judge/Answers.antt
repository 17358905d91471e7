use Rattle.std.proofs.Common.{ℕ, List, ap, arith, subst}
use Rattle.std.specs.Prelude.{All}
use Rattle.std.proofs.lemmas.List.{take_all}
use Rattle.std.proofs.lemmas.Result.{err_from_is_err_and}
use Rattle.log_text.specs.declared.log.Event.{Event}
use Rattle.heap_machine.specs.Storage.{MachineState}
use Rattle.heap_log.specs.Judged.{AllFollow, FitsListed}
use Rattle.heap_log.proofs.FollowLaws.{AllFit-more, AllFollow-more, DiffersAt-found, HasBegun-still}
use Rattle.heap_log.proofs.judging.judge.Goals as goal

pub returns-in-Some-clause-verdict : goal.returns-in-Some-clause-verdict
returns-in-Some-clause-verdict g c =
    DiffersAt-found c.args.machine.now.state c.args.events.now c.loop-count.count _ c.loop-count.machine.state c.follow_event.new.machine.state
    c.in_ok-difference.field-0 c.in-Some.difference c.loop-count-test.true c.loop-count.invariant.follow c.in-Some.is c.in_ok-difference.ensures.found

pub returns-in_err-difference-clause-begun : goal.returns-in_err-difference-clause-begun
returns-in_err-difference-clause-begun g c =
    let p = err_from_is_err_and c.from_residual.result c.from_residual.ensures.1 in
    rw p.1 (HasBegun-still c.args.machine.now.state c.args.events.now c.loop-count.count c.loop-count.machine.state c.follow_event.new.machine.state
    c.loop-count-test.true c.loop-count.invariant.follow (ap (λ (m : MachineState). m.state) c.in_err-difference.ensures.still))

pub loop-count-preserved : goal.loop-count-preserved
loop-count-preserved g c = record {
  follow = AllFollow-more c.args.machine.now.state c.args.events.now c.loop-count.count _ c.loop-count.machine.state c.follow_event.new.machine.state
      c.in_ok-difference.field-0 c.loop-count-test.true c.loop-count.invariant.follow c.in_default.is c.in_ok-difference.ensures.found;
  safe = λ first. c.follow_event.ensures.safe (c.loop-count.invariant.safe first);
  fits = AllFit-more c.args.events.now c.loop-count.count _ c.loop-count-test.true c.loop-count.invariant.fits c.fit.ensures;
}

pub returns-clause-unused : goal.returns-clause-unused
returns-clause-unused g c =
    let first = c.args.machine.now.state in
    let last = c.loop-count.machine.state in
    let whole = take_all c.loop-count.count c.args.events.now (omega (arith, c.loop-count-test.false)) in
    λ safe.
    c.safe_log_law.ensures.unused first c.args.events.now last safe
    (subst (All FitsListed) whole c.loop-count.invariant.fits) (subst (λ (xs : List (ℕ × Event)). AllFollow first xs last) whole c.loop-count.invariant.follow)
