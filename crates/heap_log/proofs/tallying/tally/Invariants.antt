-- What the events so far come to, and how much that can be.
use Rattle.std.proofs.Common.{◌≡◌, take}
use Rattle.heap_log.specs.Counting.{AreFew}
use Rattle.heap_log.specs.Judged.{tally_of}
use Rattle.heap_log.proofs.tallying.tally.Given as goal

abbrev pub invariant-loop-event : goal.invariant-loop-event
invariant-loop-event l = record {
  so_far : l.tally ≡ tally_of (take l.event-index l.events);
  few : AreFew l.event-index l.tally;
}
