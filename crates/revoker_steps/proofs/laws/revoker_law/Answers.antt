use Rattle.machine_steps.specs.Follow.{Follows}
use Rattle.machine_steps.specs.Step.{Step}
use Rattle.revoker_steps.proofs.CornucopiaLaws.{Step-marked}
use Rattle.revoker_steps.proofs.EventLaws.{Runs-safe}
use Rattle.revoker_steps.proofs.RevokerLaws.{EpochLaws}
use Rattle.revoker_steps.proofs.StepLaws.{Step-machine, Step-one, Step-only, Step-safe, Untag-alone}
use Rattle.revoker_steps.proofs.laws.revoker_law.Goals as goal

pub returns-clause-one : goal.returns-clause-one
returns-clause-one c = λ old command. Step-one old command

pub returns-clause-only : goal.returns-clause-only
returns-clause-only c = λ old command reply other new left step same. Step-only old command reply other new left step same

pub returns-clause-alone : goal.returns-clause-alone
returns-clause-alone c = λ old address reply new i step other. Untag-alone old address reply new i step other

pub returns-clause-safe : goal.returns-clause-safe
returns-clause-safe c =
    let laws : EpochLaws = record { begun = c.sound_heap_law.ensures.begun; ended = c.sound_heap_law.ensures.ended } in
    λ old command reply new safe step. Step-safe laws old command reply new safe step

pub returns-clause-machine : goal.returns-clause-machine
returns-clause-machine c =
    let laws : EpochLaws = record { begun = c.sound_heap_law.ensures.begun; ended = c.sound_heap_law.ensures.ended } in
    λ old command reply new is step. Step-machine laws old command reply new is step

pub returns-clause-steps_safe : goal.returns-clause-steps_safe
returns-clause-steps_safe c =
    let laws : EpochLaws = record { begun = c.sound_heap_law.ensures.begun; ended = c.sound_heap_law.ensures.ended } in
    λ old events new safe run. Runs-safe Step c.safe_reuse_law.ensures.safe laws old events new safe run

pub returns-clause-steps_unused : goal.returns-clause-steps_unused
returns-clause-steps_unused c =
    λ old events mid command reply new safe run step. c.safe_reuse_law.ensures.unused mid command reply new (returns-clause-steps_safe c old events mid safe run) step

pub returns-clause-follows_safe : goal.returns-clause-follows_safe
returns-clause-follows_safe c =
    let laws : EpochLaws = record { begun = c.sound_heap_law.ensures.begun; ended = c.sound_heap_law.ensures.ended } in
    λ old events new safe run. Runs-safe Follows c.any_placement_law.ensures.safe laws old events new safe run

pub returns-clause-follows_unused : goal.returns-clause-follows_unused
returns-clause-follows_unused c =
    λ old events mid command reply new safe run step. c.any_placement_law.ensures.unused mid command reply new (returns-clause-follows_safe c old events mid safe run) step

pub returns-clause-marked : goal.returns-clause-marked
returns-clause-marked c = λ old command reply new dirty pages stand step. Step-marked old command reply new dirty pages stand step
