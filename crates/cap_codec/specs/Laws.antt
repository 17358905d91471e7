-- What the crates above need of rounding.
use Rattle.std.proofs.Common.{◌≤◌, ◌+◌, ◌-◌, ◌^◌, ℕ, arith}
use Rattle.std.proofs.Math.Nat.{div-add-mod', mod-lt}
use Rattle.std.proofs.lemmas.Nat.{pow_pos}
use Rattle.cap_codec.specs.Rounding.{round_up}

pub le-round_up : (k n : ℕ) → n ≤ round_up k n
le-round_up k n = let p = pow_pos k in omega (arith, div-add-mod' (n + (2 ^ k - 1)) (2 ^ k), mod-lt (n + (2 ^ k - 1)) p)
