use Rattle.sweep_masks.specs.Laws.{TakePageTags-masks}
use Rattle.sweep_masks.specs.Tasks.{end_page, first_page, page_count}
use Rattle.sweep_masks.proofs.task.sweep_task.Goals as goal

pub returns-clause-due : goal.returns-clause-due
returns-clause-due c heap of =
    let m = c.args.memory.now in
    let cut = c.args.cutting.now in
    let are = rw c.swept_into.ensures.task at c.swept_into.ensures.masks.1 in
    TakePageTags-masks heap m c.args.shadow.now (first_page cut c.args.task) (end_page cut (page_count m) c.args.task) c.swept_into.result.masks.items of are
