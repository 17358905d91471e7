use Rattle.std.proofs.Common.{◌*◌, ◌&&◌, ◌||◌}
use Rattle.granule_rows.proofs.RangeLaws.{AreMade}
use Rattle.granule_rows.specs.Runs.{is_within}
use Rattle.tag_memory.specs.Tags.{is_set_for}
use Rattle.granule_rows.proofs.ranges.add_words.Given as goal

abbrev pub invariant-loop-w : goal.invariant-loop-w
invariant-loop-w l = AreMade (λ k b. (is_within (64 * l.first) (64 * l.end) k && is_set_for l.other k) || b) l.words l.initial.words l.first l.w
