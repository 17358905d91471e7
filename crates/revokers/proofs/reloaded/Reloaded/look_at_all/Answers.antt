use Rattle.std.proofs.Common.{◌≡◌, ◌∙◌, ◌<◌, arith, length, refl}
use Rattle.revokers.proofs.SeenLaws.{SeenBelow-next, SeenBelow-none, SeenBelow-seen, SeenBelow-visits}
use Rattle.revokers.proofs.reloaded.Reloaded.look_at_all.Goals as goal

pub loop-page-init : goal.loop-page-init
loop-page-init c = (SeenBelow-none c.args.self.now c.args.acts.now.items c.requires.started (c.invariant.ensures.epoch c.requires.started).is_open, record { capacity = refl; few = omega arith })

pub look_if_unseen-cleared-requires-clause-started : goal.look_if_unseen-cleared-requires-clause-started
look_if_unseen-cleared-requires-clause-started c = c.loop-page.invariant.0.started

pub look_if_unseen-cleared-requires-clause-page : goal.look_if_unseen-cleared-requires-clause-page
look_if_unseen-cleared-requires-clause-page c = omega (arith, c.loop-page-test.true, c.pages-page-end.ensures, c.loop-page.invariant.0.marks)

pub loop-page-preserved : goal.loop-page-preserved
loop-page-preserved c =
    let inside : c.loop-page.page < length c.args.self.now.seen = omega (arith, c.loop-page-test.true, c.pages-page-end.ensures) in
    let done = c.look_if_unseen-cleared in
    let so = c.loop-page.invariant in (
      SeenBelow-next c.args.self.now c.args.acts.now.items c.loop-page.page c.loop-page.cleared done.result c.loop-page.self c.loop-page.acts.items done.new.self done.new.acts.items c.invariant.ensures.pages inside
          so.0 done.ensures.looks done.ensures.few,
      record {
        capacity = done.ensures.room.capacity ∙ so.1.capacity;
        few = omega (arith, done.ensures.room.few, so.1.few);
      },
    )
