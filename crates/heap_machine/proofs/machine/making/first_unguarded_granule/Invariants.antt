use Rattle.std.proofs.Common.{◌<◌, ◌-◌, ℕ, false, get_or}
use Rattle.machine_steps.specs.Safety.{HoldsGuarded}
use Rattle.heap_machine.proofs.machine.making.first_unguarded_granule.Given as goal

abbrev pub invariant-loop-i : goal.invariant-loop-i
invariant-loop-i l = (k : ℕ) → k < l.from → HoldsGuarded l.heap (get_or l.memory.granules k (0, false))

abbrev pub decreases-loop-i : goal.decreases-loop-i
decreases-loop-i l = l.end - l.from
