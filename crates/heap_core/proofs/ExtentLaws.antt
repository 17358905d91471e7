-- Where the table of a heap lies, in plain numbers.
use Rattle.std.proofs.Common.{ℕ, Bool, List}
use Rattle.heap_model.specs.ExtentLaws.{LiesWithin, LiesWithin-span}
use Rattle.heap_core.specs.Table.{IsTable}

pub LiesWithin-table : {base : ℕ} {lengths : List ℕ} {marks : List Bool} (table : IsTable base lengths marks) → LiesWithin base table.pages
LiesWithin-table {base} table = LiesWithin-span base table.pages table.size table.place
