use Rattle.std.proofs.Common.{◌≡◌, ◌∙◌, sym, arith}
use Rattle.sweep_masks.specs.Tasks.{IsTaskCount, page_count}
use Rattle.sweep_masks.proofs.CountLaws.{all_once}
use Rattle.sweep_masks.proofs.WholeLaws.{gathered_masks, only_memory}
use Rattle.sweep_masks.proofs.pool.finish.Goals as goal

pub gather-requires : goal.gather-requires
gather-requires c =
    let pages : c.pages.result ≡ page_count c.args.memory.now = (let e = c.pages.ensures in omega arith) in
    rw (c.bits-tasks.ensures, pages) c.requires.tasks

pub unreachable-requires : goal.unreachable-requires
unreachable-requires c =
    let m = c.args.memory.now in
    let pages : page_count m ≡ c.pages.result = (let e = c.pages.ensures in omega arith) in
    let tasks : IsTaskCount c.args.cutting.now (page_count m) c.bits-tasks.result = rw c.bits-tasks.ensures c.requires.tasks in
    let all = all_once m c.args.shadow.now c.args.cutting.now c.args.board.bits c.args.done.seat c.args.done.list.items c.requires.tasks (sym c.in-Ok.ensures.mine ∙ c.in-Ok.ensures.seen) c.requires.done in
    c.in_default-fault.not-Memory (only_memory c.in-Err.fault all tasks (rw pages c.in-Err.ensures.err))

pub returns-in-Ok-gather-clause-ok : goal.returns-in-Ok-gather-clause-ok
returns-in-Ok-gather-clause-ok c =
    let m = c.args.memory.now in
    let pages : page_count m ≡ c.pages.result = (let e = c.pages.ensures in omega arith) in
    let tasks : IsTaskCount c.args.cutting.now (page_count m) c.bits-tasks.result = rw c.bits-tasks.ensures c.requires.tasks in
    let all = all_once m c.args.shadow.now c.args.cutting.now c.args.board.bits c.args.done.seat c.args.done.list.items c.requires.tasks (sym c.in-Ok.ensures.mine ∙ c.in-Ok.ensures.seen) c.requires.done in
    gathered_masks c.in-Ok-gather.masks.items all (omega (arith, c.pages.ensures)) tasks (rw pages c.in-Ok-gather.ensures.ok)
