use Rattle.std.proofs.Common.{◌≤◌, ◌^◌, arith}
use Rattle.std.proofs.Math.Nat.{pow-le-pow_right}
use Rattle.std.proofs.lemmas.Nat.{one_shl}
use Rattle.cap_codec.proofs.plain.rounding.power.Goals as goal

pub returns-clause-limit : goal.returns-clause-limit
returns-clause-limit c =
    let p : 2 ^ c.args.k ≤ 2 ^ 65 = pow-le-pow_right (omega arith) c.requires in
    omega (arith, one_shl c.args.k 128 (omega arith))
