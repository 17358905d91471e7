use Rattle.std.proofs.Common.{◌∙◌, ◌≤◌, ◌+◌, get_or, sym, subst, arith}
use Rattle.heap_core.specs.Table.{TableState}
use Rattle.heap_core.proofs.OverLaws.{IsReachingStart, IsReachingStart-last, ends_at_free}
use Rattle.heap_core.proofs.StoredLaws.{row_reaches}
use Rattle.heap_core.proofs.table.Table.reaching_start.Goals as goal

pub is_free-requires : goal.is_free-requires
is_free-requires c =
    let inside = c.requires.inside in
    omega (arith, c.self.invariant.rows.free, row_reaches c.self.inside c.self.invariant c.args.granule (rw (← c.self.view_is) at inside))

pub returns-then-is_free-clause-before : goal.returns-then-is_free-clause-before
returns-then-is_free-clause-before c = λ k lt.
    subst (λ (s : TableState). k + get_or s.lengths k 0 ≤ c.args.granule) c.self.view_is
    (ends_at_free c.self.inside c.self.invariant c.args.granule k (sym c.is_free.ensures ∙ c.if-is_free.true) lt)

pub last_set-requires : goal.last_set-requires
last_set-requires c =
    let inside = c.requires.inside in
    omega (arith, c.deref.ensures.len, row_reaches c.self.inside c.self.invariant c.args.granule (rw (← c.self.view_is) at inside))

pub returns : goal.returns
returns c =
    let apart = c.requires.apart in
    let found = c.last_set.ensures in
    let start = IsReachingStart-last c.self.inside c.self.invariant c.args.granule c.last_set.result (rw (← c.self.view_is) at apart) (rw c.deref.ensures.value at found) in
    let here = subst (λ (s : TableState). IsReachingStart s.lengths c.args.granule c.unwrap_or.result) c.self.view_is (rw (← c.unwrap_or.ensures) at start) in
    record { within = here.within; before = here.before; last = here.last }
