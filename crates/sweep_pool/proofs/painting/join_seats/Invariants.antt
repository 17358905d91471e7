use Rattle.std.proofs.Common.{◌≡◌, ◌≤◌, ◌+◌, length}
use Rattle.heap_model.specs.Heap.{due}
use Rattle.sweep_pool.specs.Painting.{EachAt, HasPainted, IsPaintedShare, share_start}
use Rattle.sweep_pool.proofs.painting.join_seats.Given as goal

abbrev pub invariant-loop-seat : goal.invariant-loop-seat
invariant-loop-seat g l = record {
  few : length l.seats.items ≤ l.painting.workers;
  left : EachAt (IsPaintedShare l.painting.heap.now l.painting.board.now l.painting.workers) l.seats.items;
  painted : HasPainted l.painting.heap.now l.painting.board.now (share_start (length (due l.painting.heap.now)) l.painting.workers (length l.seats.items)) (length (due l.painting.heap.now)) l.whole;
  parts : l.whole.parts + length l.seats.items ≡ l.painting.workers;
}

abbrev pub decreases-loop-seat : goal.decreases-loop-seat
decreases-loop-seat g l = length l.seats.items
