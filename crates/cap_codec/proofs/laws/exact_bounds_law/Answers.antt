use Rattle.cap_codec.proofs.ExactLaws.{IsExact-is_decoded}
use Rattle.cap_codec.proofs.laws.exact_bounds_law.Goals as goal

pub returns : goal.returns
returns c = λ base top small order room. IsExact-is_decoded base top small order room
