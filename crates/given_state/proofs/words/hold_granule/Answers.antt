use Rattle.given_state.proofs.GuardLaws.{HasGranule-none}
use Rattle.given_state.proofs.words.hold_granule.Goals as goal

pub returns-in_default-clause-err : goal.returns-in_default-clause-err
returns-in_default-clause-err c = HasGranule-none c.args.heap.now c.args.memory.now c.args.address c.requires c.in_default.ensures
