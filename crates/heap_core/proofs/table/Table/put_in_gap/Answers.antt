use Rattle.std.proofs.Common.{refl, arith}
use Rattle.heap_core.proofs.StoredLaws.{AreStored-put, lengths_put, marks_put, run_inside}
use Rattle.heap_core.proofs.table.Table.put_in_gap.Goals as goal

pub overflow_cast-granules : goal.overflow_cast-granules
overflow_cast-granules c =
    let gap = rw (← c.self.view_is) at c.requires.gap in
    omega (arith, run_inside c.self.inside c.self.invariant gap, c.self.invariant.count, c.self.invariant.rows.limit)

pub index_mut-requires : goal.index_mut-requires
index_mut-requires c =
    let gap = rw (← c.self.view_is) at c.requires.gap in
    omega (arith, run_inside c.self.inside c.self.invariant gap, gap.some)

pub put-requires-clause-end : goal.put-requires-clause-end
put-requires-clause-end c =
    let gap = rw (← c.self.view_is) at c.requires.gap in
    omega (arith, run_inside c.self.inside c.self.invariant gap, c.self.invariant.count)

pub invariant_of-self : goal.invariant_of-self
invariant_of-self c =
    let put = c.put.ensures in
    let gap = rw (← c.self.view_is) at c.requires.gap in
    AreStored-put c.self.inside c.self.invariant c.put.new.self c.args.start c.args.granules gap put.due put.starts _ refl refl put.rows put.count put.free

pub returns-clause-lengths : goal.returns-clause-lengths
returns-clause-lengths c =
    let put = c.put.ensures in
    let gap = rw (← c.self.view_is) at c.requires.gap in
    rw (← c.self.view_is) (lengths_put c.self.inside c.self.invariant c.put.new.self c.args.start c.args.granules gap put.due put.starts)

pub returns-clause-marks : goal.returns-clause-marks
returns-clause-marks c =
    let put = c.put.ensures in
    let gap = rw (← c.self.view_is) at c.requires.gap in
    rw (← c.self.view_is) (marks_put c.self.inside c.self.invariant c.put.new.self c.args.start c.args.granules gap put.due put.starts)
