use Rattle.heap_core.proofs.StoredLaws.{ends_at, marks_some, starts_at}
use Rattle.heap_core.proofs.table.Table.due_start.Goals as goal

pub returns-clause-start : goal.returns-clause-start
returns-clause-start c =
    let before = rw (c.deref.ensures.value, c.deref-2.ensures.value) at c.place_of_both.ensures.before in
    let within = rw c.deref.ensures.value at c.place_of_both.ensures.within in
    let one = rw (c.deref.ensures.value, c.deref-2.ensures.value) at c.place_of_both.ensures.one in
    rw (← c.self.view_is) (starts_at c.self.inside c.self.invariant c.args.n c.place_of_both.result before within one)

pub returns-clause-past : goal.returns-clause-past
returns-clause-past c =
    let past = rw (c.deref.ensures.value, c.deref-2.ensures.value) at c.place_of_both.ensures.past in
    rw (← c.self.view_is) (ends_at c.self.inside c.self.invariant c.args.n c.place_of_both.result past)

pub returns-clause-some : goal.returns-clause-some
returns-clause-some c = rw (← c.self.view_is) (marks_some c.self.inside c.self.invariant)
