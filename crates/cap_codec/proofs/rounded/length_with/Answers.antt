use Rattle.std.proofs.Common.{◌∙◌, arith, rules}
use Rattle.cap_codec.specs.Rounding.{exponent_for, length_for}
use Rattle.cap_codec.proofs.LengthLaws.{length_for-least, length_for-long, outward-length_for}
use Rattle.cap_codec.proofs.RoundingLaws.{IsExponent-exponent_for}
use Rattle.cap_codec.proofs.rounded.length_with.Goals as goal

pub returns-clause-value : goal.returns-clause-value
unfolding length_for
returns-clause-value c = search rules

pub returns-clause-exact : goal.returns-clause-exact
returns-clause-exact c = λ base aligned room.
    let length_is = returns-clause-value c in
    rw length_is (outward-length_for c.args.n base (omega arith) aligned (rw length_is at room))

pub returns-clause-minimal : goal.returns-clause-minimal
returns-clause-minimal c = λ m h room held. rw (returns-clause-value c) (length_for-least c.args.n m h room held)

pub returns-clause-exponent : goal.returns-clause-exponent
returns-clause-exponent c = λ long.
    (exponent_for 0 c.args.n, IsExponent-exponent_for 0 c.args.n (omega arith) (omega arith), returns-clause-value c ∙ length_for-long c.args.n long)
