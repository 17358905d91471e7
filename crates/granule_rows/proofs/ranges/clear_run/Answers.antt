use Rattle.std.proofs.Common.{◌∙◌, ap, arith, get_or, ◌&&◌, not, Bool}
use Rattle.granule_rows.proofs.RangeLaws.{AreMade-more}
use Rattle.tag_memory.specs.Laws.{is_set-cleared}
use Rattle.tag_memory.specs.Tags.{is_set}
use Rattle.granule_rows.proofs.ranges.clear_run.Goals as goal

pub loop-w-preserved : goal.loop-w-preserved
loop-w-preserved c = AreMade-more _ c.loop-w.words _ _ c.loop-w.w _ c.loop-w.invariant (omega arith) (omega (arith, c.requires.within, c.requires.limit))
    (λ j lt. is_set-cleared _ _ j c.range_word.type_inv lt ∙ ap (λ (b : Bool). is_set (get_or c.loop-w.words c.loop-w.w 0) j && not b) (c.range_word.ensures j lt))

pub returns-clause-rest : goal.returns-clause-rest
returns-clause-rest c = λ w out. c.loop-w.invariant.rest w (λ from. omega (arith, out from, c.div_ceil-w-end.ensures))
