use Rattle.std.proofs.Common.{◌≡◌, ◌*◌}
use Rattle.granule_rows.specs.Counts.{count_below, is_both}
use Rattle.granule_rows.proofs.count.count_both.Given as goal

abbrev pub invariant-loop-w : goal.invariant-loop-w
invariant-loop-w l = l.count ≡ count_below (is_both l.row l.other) (64 * l.w)
