use Rattle.std.proofs.Common.{◌≡◌, ◌≤◌, ◌+◌, ◌^◌, arith, rules}
use Rattle.std.proofs.Math.Nat.{pow-le-pow_right}
use Rattle.cap_codec.specs.Rounding.{exponent_for}
use Rattle.cap_codec.proofs.LengthLaws.{unit_for-long, unit_for-short}
use Rattle.cap_codec.proofs.RoundingLaws.{IsExponent-exponent_for}
use Rattle.cap_codec.proofs.plain.rounding.alignment_mask.Goals as goal

pub returns-then-length-lt-SHORT-clause-value : goal.returns-then-length-lt-SHORT-clause-value
returns-then-length-lt-SHORT-clause-value c = omega (arith, unit_for-short c.args.n (omega arith))

pub returns-else-length-lt-SHORT-clause-value : goal.returns-else-length-lt-SHORT-clause-value
returns-else-length-lt-SHORT-clause-value c =
    let unit_is : c.power.result ≡ 2 ^ (exponent_for 0 c.args.n + 3) = search rules in
    let limit : 2 ^ (c.first_exponent.result + 3) ≤ 2 ^ 55 = let e : c.first_exponent.result + 3 ≤ 55 = omega arith in pow-le-pow_right (omega arith) e in
    omega (arith, unit_for-long c.args.n (omega arith))

pub returns-else-length-lt-SHORT-clause-exponent : goal.returns-else-length-lt-SHORT-clause-exponent
returns-else-length-lt-SHORT-clause-exponent c = λ long.
    let value = returns-else-length-lt-SHORT-clause-value c in
    (exponent_for 0 c.args.n, IsExponent-exponent_for 0 c.args.n (omega arith) (omega arith), omega (arith, value, unit_for-long c.args.n long))
