use Rattle.std.proofs.Common.{◌<◌, ◌/◌, ℕ}
use Rattle.heap_machine.specs.Making.{StandsDirty}
use Rattle.heap_machine.proofs.machine.making.first_in_clean_page.Given as goal

abbrev pub invariant-loop-page : goal.invariant-loop-page
invariant-loop-page l = (k : ℕ) → k / 256 < l.page → StandsDirty l.heap l.memory k
