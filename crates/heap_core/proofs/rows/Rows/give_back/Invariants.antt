use Rattle.std.proofs.Common.{◌≡◌, ◌<◌, ◌/◌, ℕ, false}
use Rattle.heap_core.specs.Rows.{AreGiven, AreRows}
use Rattle.tag_memory.specs.Tags.{is_set_for}
use Rattle.heap_core.proofs.rows.Rows.give_back.Given as goal

abbrev pub invariant-loop-w : goal.invariant-loop-w
invariant-loop-w l = record {
  rows : AreRows l.self;
  given : AreGiven l.initial.self l.self;
  gone : (page : ℕ) → page / 64 < l.w → is_set_for l.self.due_pages.items page ≡ false;
}
