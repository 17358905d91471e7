use Rattle.heap_core.proofs.StoredLaws.{if_ok, length_of_row, painted_by_row}
use Rattle.heap_core.proofs.table.Table.shadow.Goals as goal

pub returns-clause-granules : goal.returns-clause-granules
returns-clause-granules c =
    if_ok c.of_row.result c.of_row.ensures
    (λ shadow is. rw (is, c.deref.ensures.value, ← c.self.view_is) (length_of_row c.self.inside c.self.invariant))

pub returns-clause-painted : goal.returns-clause-painted
returns-clause-painted c =
    if_ok c.of_row.result c.of_row.ensures
    (λ shadow is. rw (is, c.deref.ensures.value, ← c.self.view_is) (painted_by_row c.self.inside c.self.invariant))
