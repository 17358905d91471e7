use Rattle.std.proofs.Common.{◌∙◌}
use Rattle.heap_core.proofs.StoredLaws.{marks_counted, marks_some}
use Rattle.heap_core.proofs.table.Table.due_count.Goals as goal

pub returns-clause-count : goal.returns-clause-count
returns-clause-count c =
    rw (← c.self.view_is) (c.count_both.ensures ∙ rw (c.deref.ensures.value, c.deref-2.ensures.value) (marks_counted c.self.inside c.self.invariant))

pub returns-clause-some : goal.returns-clause-some
returns-clause-some c = rw (← c.self.view_is) (marks_some c.self.inside c.self.invariant)
