use Rattle.revokers.proofs.DirtyLaws.{CleanBelow}
use Rattle.revokers.specs.Acts.{Tells}
use Rattle.revokers.proofs.cornucopia.visit_dirty.Given as goal

abbrev pub invariant-loop-page : goal.invariant-loop-page
invariant-loop-page l = CleanBelow l.fn.machine l.fn.acts.items l.page l.cleared l.machine l.acts.items × Tells l.page l.fn.acts l.acts
