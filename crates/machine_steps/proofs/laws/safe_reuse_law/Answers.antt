use Rattle.machine_steps.specs.DirtyLaws.{Step-dirtied}
use Rattle.machine_steps.proofs.OneStep.{Step-only, Step-some}
use Rattle.machine_steps.specs.SoundLaws.{IsSafe-first}
use Rattle.machine_steps.proofs.laws.safe_reuse_law.Goals as goal

pub returns-clause-one : goal.returns-clause-one
returns-clause-one c = λ old command. Step-some old command

pub returns-clause-only : goal.returns-clause-only
returns-clause-only c = λ old command reply other new left p q. Step-only old command reply other new left p q

pub returns-clause-first : goal.returns-clause-first
returns-clause-first c = λ base pages size place. IsSafe-first base pages size place

-- What holds of each answer that is allowed holds of a step.
pub returns-clause-safe : goal.returns-clause-safe
returns-clause-safe c = λ old command reply new safe fits step.
    c.any_placement_law.ensures.safe old command reply new safe fits (c.any_placement_law.ensures.steps old command reply new safe step)

pub returns-clause-unused : goal.returns-clause-unused
returns-clause-unused c = λ old command reply new safe step.
    c.any_placement_law.ensures.unused old command reply new safe (c.any_placement_law.ensures.steps old command reply new safe step)

pub returns-clause-revoked : goal.returns-clause-revoked
returns-clause-revoked c = λ old command reply new safe fits step.
    c.any_placement_law.ensures.revoked old command reply new safe fits (c.any_placement_law.ensures.steps old command reply new safe step)

pub returns-clause-dirtied : goal.returns-clause-dirtied
returns-clause-dirtied c = λ old command reply new dirty pages stand step. Step-dirtied old command reply new dirty pages stand step
