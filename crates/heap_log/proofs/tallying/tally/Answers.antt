use Rattle.std.proofs.Common.{arith}
use Rattle.heap_log.specs.CountingLaws.{AreFew-more, HasRoom-few, tally_of-more}
use Rattle.heap_log.proofs.tallying.tally.Goals as goal

pub count_event-requires : goal.count_event-requires
count_event-requires c =
    record { room = HasRoom-few c.loop-event.event-index c.loop-event.tally c.loop-event.invariant.few (omega (arith, c.requires, c.loop-event-test.true)) }

pub loop-event-preserved : goal.loop-event-preserved
loop-event-preserved c =
    let before = c.loop-event.invariant in
    let i = c.loop-event.event-index in
    record {
      so_far = tally_of-more c.args.events.now i _ c.loop-event.tally c.count_event.new.tally c.loop-event-test.true before.so_far c.count_event.ensures.value;
      few = AreFew-more i c.loop-event.tally c.count_event.new.tally before.few c.count_event.ensures.few;
    }
