use Rattle.std.proofs.Common.{arith}
use Rattle.heap_core.proofs.StoredLaws.{length-lengths_of}
use Rattle.heap_core.proofs.table.Table.granules.Goals as goal

pub returns : goal.returns
returns c = rw (← c.self.view_is) (omega (arith, c.len.ensures, length-lengths_of c.self.inside.rows.starts.items c.self.inside.lengths.items))
