use Rattle.std.proofs.Common.{◌≡◌, ◌<◌, ◌≤◌, ◌*◌, ℕ, arith, subst, sym}
use Rattle.std.specs.Prelude.{min}
use Rattle.sweep_masks.specs.Laws.{IsTask-below}
use Rattle.sweep_masks.specs.Masks.{IsPassedTo}
use Rattle.sweep_masks.specs.Tasks.{first_page, page_count}
use Rattle.sweep_masks.proofs.alone.sweep_pages.Goals as goal

pub fill_pages-requires-clause-before : goal.fill_pages-requires-clause-before
fill_pages-requires-clause-before g c =
    let cut = c.args.cutting.now in
    let inside : first_page cut c.loop-task.task < c.pages-pages.result = IsTask-below cut c.pages-pages.result c.tasks-task-end.result c.loop-task.task c.tasks-task-end.ensures c.loop-task-test.true in
    let at : min (c.loop-task.task * cut.pages_per_task) (page_count c.args.memory.now) ≡ c.first_of-first.result = omega (arith, c.first_of-first.ensures, c.pages-pages.ensures) in
    subst (λ (end : ℕ). IsPassedTo c.args.memory.now c.args.shadow.now c.args.dirty_only end c.loop-task.masks.items) at c.loop-task.invariant.made

pub returns-clause-ok : goal.returns-clause-ok
returns-clause-ok g c =
    let last : c.loop-task.task ≡ c.tasks-task-end.result = omega (arith, c.loop-task-test.false, c.loop-task.auto.task-end) in
    let enough : c.pages-pages.result ≤ c.loop-task.task * c.args.cutting.now.pages_per_task = subst (λ (n : ℕ). c.pages-pages.result ≤ n * c.args.cutting.now.pages_per_task) (sym last) c.tasks-task-end.ensures.enough in
    record {
      count = omega (arith, c.loop-task.invariant.count, c.pages-pages.ensures);
      bits = λ i inside. c.loop-task.invariant.made.made i (omega (arith, inside, enough, c.pages-pages.ensures));
    }
