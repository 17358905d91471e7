use Rattle.std.proofs.Common.{◌/◌, ◌&&◌, nat_lt}
use Rattle.granule_rows.specs.Runs.{is_within}
use Rattle.heap_core.specs.Painting.{IsPainted}
use Rattle.tag_memory.specs.Tags.{is_set_for}
use Rattle.heap_core.proofs.painting.paint_row.Given as goal

abbrev pub invariant-loop-w : goal.invariant-loop-w
invariant-loop-w l = IsPainted (λ k. nat_lt (k / 64) l.w && (is_within l.from l.to k && is_set_for l.row k)) l.board l.initial.seat l.seat
