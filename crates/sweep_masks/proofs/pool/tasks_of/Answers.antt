use Rattle.std.proofs.Common.{◌≡◌, ℕ, subst, arith}
use Rattle.sweep_masks.specs.Tasks.{IsTaskCount, page_count}
use Rattle.sweep_masks.proofs.TaskLaws.{some_tasks}
use Rattle.sweep_masks.proofs.pool.tasks_of.Goals as goal

pub returns-clause-count : goal.returns-clause-count
returns-clause-count c =
    let pages : c.pages.result ≡ page_count c.args.memory.now = (let e = c.pages.ensures in omega arith) in
    subst (λ (n : ℕ). IsTaskCount c.args.cutting.now n c.tasks.result) pages c.tasks.ensures

pub returns-clause-some : goal.returns-clause-some
returns-clause-some c =
    (some_tasks c.args.memory.now c.args.cutting.now c.tasks.result c.invariant.ensures (returns-clause-count c)).0

pub returns-clause-most : goal.returns-clause-most
returns-clause-most c =
    (some_tasks c.args.memory.now c.args.cutting.now c.tasks.result c.invariant.ensures (returns-clause-count c)).1
