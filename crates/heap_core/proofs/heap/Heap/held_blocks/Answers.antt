use Rattle.std.proofs.Common.{◌∙◌, arith, sym}
use Rattle.std.proofs.lemmas.List.Sums.{count_by-le-length}
use Rattle.heap_core.specs.Table.{is_marked}
use Rattle.heap_core.proofs.NthLaws.{length-blocks}
use Rattle.heap_core.proofs.ShadowLaws.{due-heap_state}
use Rattle.heap_core.proofs.ExtentLaws.{LiesWithin-table}
use Rattle.heap_core.proofs.heap.Heap.held_blocks.Goals as goal

pub returns-clause-count : goal.returns-clause-count
returns-clause-count c =
    rw (← c.self.view_is, due-heap_state) (c.due_count.ensures.count ∙ sym (length-blocks _ 0 _ _ c.self.invariant.table.same c.due_count.ensures.some))

pub returns-clause-limit : goal.returns-clause-limit
returns-clause-limit c =
    let h = c.self.inside in
    let table = c.self.invariant.table in
    let within = LiesWithin-table table in
    omega (arith, c.due_count.ensures.count, count_by-le-length is_marked h.table.marks, table.same, table.count, within.limit)
