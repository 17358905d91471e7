use Rattle.std.proofs.Common.{◌∙◌, arith}
use Rattle.revokers.proofs.EndingLaws.{UntagsBelow-next, UntagsBelow-untagged, UntagsBelow-untags}
use Rattle.revokers.proofs.ending.untag_registers.Goals as goal

pub loop-register-preserved : goal.loop-register-preserved
loop-register-preserved c =
    let done = c.untag_register-cleared in
    let so = c.loop-register.invariant in (
      UntagsBelow-next c.args.machine.now c.args.acts.now.items c.loop-register.register c.loop-register.cleared done.result c.loop-register.machine c.loop-register.acts.items done.new.machine done.new.acts.items
          so.0 done.ensures.step done.ensures.dirty done.ensures.cutting done.ensures.few,
      record {
        capacity = done.ensures.room.capacity ∙ so.1.capacity;
        few = omega (arith, done.ensures.room.few, so.1.few);
      },
    )
