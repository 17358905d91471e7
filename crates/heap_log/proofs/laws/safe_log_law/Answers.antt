use Rattle.heap_log.proofs.FollowLaws.{AllFollow-one, AllFollow-safe, DiffersAt-never, HandOutUnused-safe, Laws}
use Rattle.heap_log.proofs.laws.safe_log_law.Goals as goal

pub returns-clause-one : goal.returns-clause-one
returns-clause-one c =
    let answers = c.any_placement_law.ensures in
    let steps = c.revoker_law.ensures in
    let laws : Laws = record { one = answers.one; safe = answers.safe; unused = answers.unused; only = steps.only; step_safe = steps.safe } in
    λ first events last left p q. AllFollow-one laws first events last left p q

pub returns-clause-never : goal.returns-clause-never
returns-clause-never c =
    let answers = c.any_placement_law.ensures in
    let steps = c.revoker_law.ensures in
    let laws : Laws = record { one = answers.one; safe = answers.safe; unused = answers.unused; only = steps.only; step_safe = steps.safe } in
    λ first events line count difference mid last differs p. DiffersAt-never laws first events line count difference mid last differs p

pub returns-clause-safe : goal.returns-clause-safe
returns-clause-safe c =
    let answers = c.any_placement_law.ensures in
    let steps = c.revoker_law.ensures in
    let laws : Laws = record { one = answers.one; safe = answers.safe; unused = answers.unused; only = steps.only; step_safe = steps.safe } in
    λ first events last safe fits p. AllFollow-safe laws first events last safe fits p

pub returns-clause-unused : goal.returns-clause-unused
returns-clause-unused c =
    let answers = c.any_placement_law.ensures in
    let steps = c.revoker_law.ensures in
    let laws : Laws = record { one = answers.one; safe = answers.safe; unused = answers.unused; only = steps.only; step_safe = steps.safe } in
    λ first events last safe fits p. HandOutUnused-safe laws first events last safe fits p
