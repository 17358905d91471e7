use Rattle.std.proofs.Common.{◌∙◌, ◌+◌, ◌-◌, ◌*◌, arith}
use Rattle.sweep_masks.specs.Masks.{is_hit_at}
use Rattle.sweep_masks.proofs.PassLaws.{pages-more}
use Rattle.sweep_masks.proofs.task.swept_into.Goals as goal

pub loop-page-preserved : goal.loop-page-preserved
loop-page-preserved c =
    let h = c.loop-page.invariant in
    let first = c.first_of-first.result in
    record {
      count = c.fill_page.ensures.count ∙ h.count;
      done = λ i lt. pages-more (λ k. is_hit_at c.args.memory.now c.args.shadow.now (256 * first + k)) c.loop-page.room.items c.fill_page.new.masks.items (c.loop-page.page - first)
          c.fill_page.ensures.made c.fill_page.ensures.kept h.done i (let from = c.loop-page.auto.page in omega (arith, lt));
    }
