use Rattle.machine_steps.specs.DirtyLaws.{Follows-dirtied}
use Rattle.machine_steps.proofs.FollowLaws.{Follows-one, PlaceLaws, Step-follows}
use Rattle.machine_steps.proofs.RevokedLaws.{Follows-revoked}
use Rattle.machine_steps.proofs.SafeSteps.{Follows-safe, Laws}
use Rattle.machine_steps.specs.SweptState.{IsSafe-swept}
use Rattle.machine_steps.proofs.UnusedLaws.{Follows-unused}
use Rattle.machine_steps.proofs.laws.any_placement_law.Goals as goal

pub returns-clause-steps : goal.returns-clause-steps
returns-clause-steps c =
    let heaps = c.sound_heap_law.ensures in
    let laws : PlaceLaws = record { place = heaps.place; enough = heaps.enough; exact = heaps.exact; free = heaps.free } in
    λ old command reply new safe step. Step-follows laws old command reply new safe.heap step

pub returns-clause-one : goal.returns-clause-one
returns-clause-one c = λ old command reply new left p q. Follows-one old command reply new left p q

pub returns-clause-safe : goal.returns-clause-safe
returns-clause-safe c =
    let words = c.derivation_law.ensures in
    let heaps = c.sound_heap_law.ensures in
    let laws : Laws = record {
      live = heaps.live;
      waiting = heaps.waiting;
      free = heaps.free;
      begun = heaps.begun;
      ended = heaps.ended;
      narrowed = words.narrowed;
      capability = words.capability;
      tested = words.tested;
      moved = words.moved;
      masked = words.masked;
    } in
    λ old command reply new safe fits follows. Follows-safe laws old command reply new safe fits follows

pub returns-clause-unused : goal.returns-clause-unused
returns-clause-unused c =
    λ old command reply new safe follows.
    let after = IsSafe-swept old safe (c.sound_heap_law.ensures.free old.heap safe.heap) in
    Follows-unused old command reply new safe after follows

pub returns-clause-revoked : goal.returns-clause-revoked
returns-clause-revoked c =
    λ old command reply new safe fits follows. Follows-revoked old command reply new (returns-clause-safe c old command reply new safe fits follows) follows

pub returns-clause-dirtied : goal.returns-clause-dirtied
returns-clause-dirtied c = λ old command reply new dirty pages stand follows. Follows-dirtied old command reply new dirty pages stand follows
