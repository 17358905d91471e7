use Rattle.heap_core.specs.Consistent.{either_mark}
use Rattle.heap_model.specs.Shadow.{bits_of}
use Rattle.heap_core.specs.Table.{NonePast, has_mark}
use Rattle.heap_core.proofs.table.Table.first_past.Given as goal

abbrev pub invariant-loop-start : goal.invariant-loop-start
invariant-loop-start l = NonePast (has_mark l.wants_held) l.self.lengths (either_mark l.self.marks (bits_of l.late)) l.first l.start
