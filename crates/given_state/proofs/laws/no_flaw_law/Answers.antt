use Rattle.given_state.proofs.FlawLaws.{AreSafe-first}
use Rattle.given_state.proofs.laws.no_flaw_law.Goals as goal

pub returns : goal.returns
returns c = AreSafe-first
