use Rattle.given_state.proofs.GuardLaws.{IsUnguarded-range}
use Rattle.given_state.proofs.words.guard.Goals as goal

pub returns-clause-err : goal.returns-clause-err
returns-clause-err c =
    IsUnguarded-range c.args.heap.now (c.args.word, c.args.tag) c.bounds-range.result c.bounds-range.ensures.value (c.is_guarded.ensures.no c.if-is_guarded.false)
