use Rattle.std.proofs.Common.{refl}
use Rattle.machine_steps.specs.State.{first_state}
use Rattle.state_bytes.proofs.ExactLaws.{exact_none, follows_exact, revoked_exact}
use Rattle.state_bytes.proofs.laws.exact_blocks_law.Goals as goal

pub returns-clause-first : goal.returns-clause-first
returns-clause-first c = λ base pages. exact_none (first_state base pages).heap refl refl refl

pub returns-clause-steps : goal.returns-clause-steps
returns-clause-steps c = λ old command reply new safe exact step. follows_exact old command reply new exact (c.any_placement_law.ensures.steps old command reply new safe step)

pub returns-clause-follows : goal.returns-clause-follows
returns-clause-follows c = λ old command reply new exact follows. follows_exact old command reply new exact follows

pub returns-clause-revoked : goal.returns-clause-revoked
returns-clause-revoked c = λ old command reply new exact step. revoked_exact old command reply new exact step
