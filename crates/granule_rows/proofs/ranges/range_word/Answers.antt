use Rattle.std.proofs.Common.{◌∙◌}
use Rattle.granule_rows.proofs.RangeLaws.{in_run}
use Rattle.granule_rows.proofs.ranges.range_word.Goals as goal

pub returns : goal.returns
returns c = λ j lt.
    c.run_word.ensures j lt ∙ in_run c.args.first c.args.end c.args.w j _ _ lt c.saturating_sub-low.ensures c.min-high.ensures c.requires.end c.requires.first
