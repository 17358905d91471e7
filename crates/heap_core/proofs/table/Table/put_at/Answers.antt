use Rattle.std.proofs.Common.{subst, arith}
use Rattle.heap_core.specs.Table.{IsGap, TableState}
use Rattle.heap_core.proofs.StoredLaws.{gap_there, run_there}
use Rattle.heap_core.proofs.table.Table.put_at.Goals as goal

pub returns-in_default-clause-taken : goal.returns-in_default-clause-taken
returns-in_default-clause-taken c = λ _ gap.
    c.in_default.ensures c.args.start (omega arith) (run_there c.self.inside c.self.invariant (rw (← c.self.view_is) at gap))

pub returns-then-first-start-clause-taken : goal.returns-then-first-start-clause-taken
returns-then-first-start-clause-taken c = λ _ gap.
    let first = c.in-Some.ensures in
    let least = first.least c.args.start (omega arith) (run_there c.self.inside c.self.invariant (rw (← c.self.view_is) at gap)) in
    c.if-first-start.true (omega (arith, first.after, least))

pub put_in_gap-requires : goal.put_in_gap-requires
put_in_gap-requires c =
    let here = rw c.if-first-start.false at c.in-Some.ensures.run in
    record { gap = subst (λ (s : TableState). IsGap s.lengths c.args.start c.args.granules) c.self.view_is (gap_there c.self.inside c.self.invariant here) }

pub returns-clause-gap : goal.returns-clause-gap
returns-clause-gap c = λ _.
    let here = rw c.if-first-start.false at c.in-Some.ensures.run in
    subst (λ (s : TableState). IsGap s.lengths c.args.start c.args.granules) c.self.view_is (gap_there c.self.inside c.self.invariant here)
