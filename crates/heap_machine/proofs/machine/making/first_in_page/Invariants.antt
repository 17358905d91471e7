use Rattle.std.proofs.Common.{◌≡◌, ◌<◌, ◌≤◌, ◌-◌, ◌*◌, ◌/◌, ℕ}
use Rattle.heap_machine.specs.Making.{StandsDirty}
use Rattle.heap_machine.proofs.machine.making.first_in_page.Given as goal

abbrev pub invariant-loop-i : goal.invariant-loop-i
invariant-loop-i l = record {
  start : 256 * l.page ≤ l.next;
  done : (k : ℕ) → k < l.next → k / 256 ≡ l.page → StandsDirty l.heap l.memory k;
}

abbrev pub decreases-loop-i : goal.decreases-loop-i
decreases-loop-i l = l.end - l.next
