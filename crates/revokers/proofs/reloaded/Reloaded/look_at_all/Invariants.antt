use Rattle.revokers.proofs.SeenLaws.{SeenBelow}
use Rattle.revokers.specs.Acts.{Tells}
use Rattle.revokers.proofs.reloaded.Reloaded.look_at_all.Given as goal

abbrev pub invariant-loop-page : goal.invariant-loop-page
invariant-loop-page l = SeenBelow l.fn.self l.fn.acts.items l.page l.cleared l.self l.acts.items × Tells l.page l.fn.acts l.acts
