use Rattle.std.proofs.Common.{arith}
use Rattle.sweep_masks.proofs.pool.workers_for.Goals as goal

pub returns-clause-some : goal.returns-clause-some
returns-clause-some c =
    let one = c.tasks_of-tasks.ensures.some in
    let limit = c.invariant.ensures.some_workers in
    let value = c.workers.ensures in
    omega arith
