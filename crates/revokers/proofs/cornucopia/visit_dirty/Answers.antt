use Rattle.std.proofs.Common.{◌≡◌, ◌∙◌, ◌*◌, ◌<◌, ap, arith, length}
use Rattle.machine_steps.specs.Dirty.{HasPages}
use Rattle.revokers.proofs.DirtyLaws.{CleanBelow-clean, CleanBelow-next, CleanBelow-visits}
use Rattle.revokers.proofs.cornucopia.visit_dirty.Goals as goal

pub loop-page-preserved : goal.loop-page-preserved
loop-page-preserved c =
    let old = c.args.machine.now in
    let memory = c.invariant.ensures in
    let pages : HasPages old.state old.dirty = omega (arith, memory.count, memory.dirty_marks, ap length c.memory.ensures.granules, ap length c.memory.ensures.dirty) in
    let inside : c.loop-page.page < length old.dirty = omega (arith, pages, c.loop-page-test.true, c.pages-page-end.ensures, ap length c.memory-2.ensures.granules) in
    let done = c.visit_if_dirty-cleared in
    let so = c.loop-page.invariant in (
      CleanBelow-next old c.args.acts.now.items c.loop-page.page c.loop-page.cleared done.result c.loop-page.machine c.loop-page.acts.items done.new.machine done.new.acts.items pages inside
          so.0 done.ensures.looks done.ensures.cutting done.ensures.few,
      record {
        capacity = done.ensures.room.capacity ∙ so.1.capacity;
        few = omega (arith, done.ensures.room.few, so.1.few);
      },
    )
