use Rattle.std.proofs.lemmas.List.Elements.{All-more}
use Rattle.given_state.specs.Given.{MayHold, with_given_granule, with_given_register}
use Rattle.given_state.proofs.FitLaws.{FitHeap-more, base_more, granules_more}
use Rattle.given_state.proofs.LineLaws.{LacksHoldFirst-at, fold_next}
use Rattle.given_state.proofs.words.hold_all.Goals as goal

pub returns-in-Err-clause-first : goal.returns-in-Err-clause-first
returns-in-Err-clause-first c =
    LacksHoldFirst-at c.args.heap.now c.args.givens.now c.loop-line.line-index _ c.in-Err.lack c.loop-line-test.true c.loop-line.invariant.may c.in-Err.ensures.lacks

pub loop-line-preserved : goal.loop-line-preserved
loop-line-preserved c =
    let base = c.args.memory.now.base in
    record {
      may = All-more (λ line. MayHold c.args.heap.now line.1) c.args.givens.now c.loop-line.line-index _ c.loop-line-test.true c.loop-line.invariant.may c.in_default.ensures.may;
      base = base_more c.loop-line.memory c.hold_given.new.memory base _ c.loop-line.invariant.base c.in_default.ensures.memory;
      granules = fold_next (λ old line. with_given_granule base old line.1) c.args.memory.now.granules c.args.givens.now c.loop-line.line-index _ c.loop-line.memory.granules c.hold_given.new.memory.granules
          c.loop-line-test.true c.loop-line.invariant.granules (granules_more c.loop-line.memory c.hold_given.new.memory base _ c.loop-line.invariant.base c.in_default.ensures.memory);
      registers = fold_next (λ old line. with_given_register old line.1) c.args.registers.now c.args.givens.now c.loop-line.line-index _ c.loop-line.registers c.hold_given.new.registers
          c.loop-line-test.true c.loop-line.invariant.registers c.in_default.ensures.registers;
      fit = FitHeap-more c.args.heap.now c.loop-line.memory c.hold_given.new.memory c.loop-line.registers c.hold_given.new.registers _ c.loop-line.invariant.fit
          c.in_default.ensures.may c.in_default.ensures.memory c.in_default.ensures.registers;
    }
