use Rattle.std.proofs.Common.{rules, ◌≡◌}
use Rattle.heap_core.proofs.StoredLaws.{AreStored-same}
use Rattle.heap_core.proofs.table.Table.copy.Goals as goal

pub invariant_of-result : goal.invariant_of-result
invariant_of-result c =
    let lengths : c.in_ok-lengths.lengths.items ≡ c.self.inside.lengths.items = search rules in
    let rows = c.in_ok-rows.ensures in
    AreStored-same c.self.inside _ c.self.invariant lengths rows.free rows.starts rows.due rows.due_pages
