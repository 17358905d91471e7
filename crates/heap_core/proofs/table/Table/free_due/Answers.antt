use Rattle.std.proofs.Common.{refl}
use Rattle.heap_core.proofs.StoredLaws.{AreStored-drop, lengths_drop, marks_drop}
use Rattle.heap_core.proofs.table.Table.free_due.Goals as goal

pub invariant_of-self : goal.invariant_of-self
invariant_of-self c =
    let apart = c.requires.apart in
    let given = c.give_back.ensures in
    AreStored-drop c.self.inside c.self.invariant c.give_back.new.self (rw (← c.self.view_is) at apart) given.starts given.due _ refl refl given.rows given.count given.free

pub returns-clause-lengths : goal.returns-clause-lengths
returns-clause-lengths c =
    let apart = c.requires.apart in
    let given = c.give_back.ensures in
    rw (← c.self.view_is) (lengths_drop c.self.inside c.self.invariant c.give_back.new.self (rw (← c.self.view_is) at apart) given.starts given.due)

pub returns-clause-marks : goal.returns-clause-marks
returns-clause-marks c =
    let apart = c.requires.apart in
    let given = c.give_back.ensures in
    rw (← c.self.view_is) (marks_drop c.self.inside c.self.invariant c.give_back.new.self (rw (← c.self.view_is) at apart) given.starts given.due)
