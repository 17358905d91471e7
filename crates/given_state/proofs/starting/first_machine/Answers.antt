use Rattle.std.proofs.Common.{refl, ◌∙◌}
use Rattle.given_state.specs.Given.{given_heap}
use Rattle.given_state.proofs.starting.first_machine.Goals as goal

pub returns-clause-made : goal.returns-clause-made
unfolding given_heap
returns-clause-made c = c.in-Ok.ensures.first ∙ refl
