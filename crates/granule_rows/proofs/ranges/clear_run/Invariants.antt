use Rattle.std.proofs.Common.{◌/◌, ◌&&◌, not, nat_le, nat_lt}
use Rattle.granule_rows.proofs.RangeLaws.{AreMade}
use Rattle.granule_rows.proofs.ranges.clear_run.Given as goal

abbrev pub invariant-loop-w : goal.invariant-loop-w
invariant-loop-w l = AreMade (λ k b. b && not (nat_le l.first k && nat_lt k l.end)) l.words l.initial.words (l.first / 64) l.w
