use Rattle.revokers.proofs.EndingLaws.{UntagsBelow}
use Rattle.revokers.specs.Acts.{Tells}
use Rattle.revokers.proofs.ending.untag_registers.Given as goal

abbrev pub invariant-loop-register : goal.invariant-loop-register
invariant-loop-register l = UntagsBelow l.fn.machine l.fn.acts.items l.register l.cleared l.machine l.acts.items × Tells l.register l.fn.acts l.acts
