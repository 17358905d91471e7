use Rattle.std.proofs.Common.{replicate, subst, sym, true}
use Rattle.machine_steps.specs.Dirty.{IsDirtied}
use Rattle.machine_steps.specs.Follow.{Follows}
use Rattle.machine_steps.specs.State.{State}
use Rattle.revoker_steps.proofs.DueLaws.{Follows-due, IsDueAt-looked, none_due}
use Rattle.revoker_steps.proofs.CornucopiaLaws.{IsDirtied-painted, epoch-is, epoch-releases}
use Rattle.revoker_steps.proofs.StepLaws.{Paint-is}
use Rattle.revoker_steps.proofs.laws.cornucopia_law.Goals as goal

pub returns-clause-painted : goal.returns-clause-painted
returns-clause-painted c =
    λ old pages reply new count closed step. subst (λ (s : State). IsDirtied s (replicate pages true)) (sym (Paint-is old reply new closed step)) (IsDirtied-painted old pages count)

pub returns-clause-dirtied : goal.returns-clause-dirtied
returns-clause-dirtied c =
    λ first start reply pages events new left is closed count step run. (epoch-is c.any_placement_law.ensures.dirtied first start reply pages events new left closed count step run).dirtied

pub returns-clause-releases : goal.returns-clause-releases
returns-clause-releases c =
    λ first start reply pages events mid left registers new is closed count step run clean cover last.
    epoch-releases Follows mid left registers new (epoch-is c.any_placement_law.ensures.dirtied first start reply pages events mid left closed count step run) clean cover last

pub returns-clause-stored : goal.returns-clause-stored
returns-clause-stored c = λ old due command reply new opened is step. Follows-due old due command reply new opened is step

pub returns-clause-looked : goal.returns-clause-looked
returns-clause-looked c = λ old due address cleared new is step. IsDueAt-looked old due address cleared new is step

pub returns-clause-none_due : goal.returns-clause-none_due
returns-clause-none_due c = λ s due opened is none registers. none_due s due opened is none registers
