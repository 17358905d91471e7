use Rattle.cap_codec.proofs.LengthLaws.{outward-length_for}
use Rattle.cap_codec.proofs.WordLaws.{bounds_in-capability_of, bounds_in-narrowed, bounds_in-with_address, bounds_in-with_perms, is_exact-is}
use Rattle.cap_codec.proofs.laws.derivation_law.Goals as goal

pub returns-clause-narrowed : goal.returns-clause-narrowed
returns-clause-narrowed c = λ w base top small order room. bounds_in-narrowed w base top small order room

pub returns-clause-capability : goal.returns-clause-capability
returns-clause-capability c = λ base top small order room. bounds_in-capability_of base top small order room

pub returns-clause-tested : goal.returns-clause-tested
returns-clause-tested c = λ base top. is_exact-is base top

pub returns-clause-moved : goal.returns-clause-moved
returns-clause-moved c = λ w a small keeps. bounds_in-with_address w a small keeps

pub returns-clause-masked : goal.returns-clause-masked
returns-clause-masked c = λ w mask. bounds_in-with_perms w mask

pub returns-clause-exact : goal.returns-clause-exact
returns-clause-exact c = λ n base small unit room. outward-length_for n base small unit room
