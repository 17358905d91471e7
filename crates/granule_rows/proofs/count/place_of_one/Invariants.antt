use Rattle.std.proofs.Common.{◌≡◌, ◌+◌}
use Rattle.granule_rows.specs.Counts.{count_below}
use Rattle.tag_memory.specs.Tags.{is_set}
use Rattle.granule_rows.proofs.count.place_of_one.Given as goal

abbrev pub invariant-loop-j : goal.invariant-loop-j
invariant-loop-j l = count_below (is_set l.word) l.j + l.left ≡ l.n
