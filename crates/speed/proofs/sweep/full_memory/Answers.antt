use Rattle.std.proofs.Common.{length, ap, ◌∙◌}
use Rattle.std.proofs.lemmas.List.{length-set}
use Rattle.tag_memory.specs.Cells.{MemoryState}
use Rattle.speed.proofs.sweep.full_memory.Goals as goal

pub loop-granule-preserved : goal.loop-granule-preserved
loop-granule-preserved c =
    ap (λ (m : MemoryState). length m.granules) c.put.ensures ∙ (length-set _ _ _ ∙ c.loop-granule.invariant)
