use Rattle.std.proofs.Common.{◌≡◌, ◌/◌, ◌&&◌, ℕ, false, get_or, length, nat_lt}
use Rattle.tag_memory.specs.Tags.{is_set_for}
use Rattle.heap_core.proofs.table.Table.make_starts_due.Given as goal

abbrev pub invariant-loop-w : goal.invariant-loop-w
invariant-loop-w l = record {
  lengths : l.self.lengths ≡ l.initial.self.lengths;
  count : length l.self.marks ≡ length l.initial.self.marks;
  marks : (k : ℕ) → get_or l.self.marks k false ≡ (nat_lt (k / 64) l.w && is_set_for l.starts k);
}
