use Rattle.std.proofs.Common.{get_or}
use Rattle.heap_core.specs.Rows.{AreGiven, AreRows}
use Rattle.heap_core.proofs.rows.Rows.give_pages.Given as goal

abbrev pub invariant-loop-self : goal.invariant-loop-self
invariant-loop-self l = record {
  rows : AreRows l.self;
  given : AreGiven l.initial.self l.self;
}

abbrev pub decreases-loop-self : goal.decreases-loop-self
decreases-loop-self l = get_or l.self.due_pages.items l.w 0
