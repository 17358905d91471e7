use Rattle.std.proofs.Common.{◌≡◌, ◌≢◌, ◌/◌, ℕ, false, get_or, length}
use Rattle.heap_core.proofs.StartLaws.{AreLeft}
use Rattle.heap_core.proofs.table.Table.make_word_due.Given as goal

abbrev pub invariant-loop-rest : goal.invariant-loop-rest
invariant-loop-rest l = record {
  lengths : l.self.lengths ≡ l.initial.self.lengths;
  count : length l.self.marks ≡ length l.initial.self.marks;
  here : AreLeft l.self.marks l.w l.word l.rest;
  rest : (k : ℕ) → k / 64 ≢ l.w → get_or l.self.marks k false ≡ get_or l.initial.self.marks k false;
}

abbrev pub decreases-loop-rest : goal.decreases-loop-rest
decreases-loop-rest l = l.rest
