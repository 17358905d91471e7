use Rattle.std.proofs.Common.{◌≡◌, ◌^◌, ◌∙◌, ℕ, sym, w64}
use Rattle.std.proofs.lemmas.Nat.{and_mask, one_shl}
use Rattle.std.proofs.lemmas.Nat.Bits.{bit_at-trailing_zeros}
use Rattle.std.specs.Int.{trailing_zeros}
use Rattle.granule_rows.proofs.row.rest.Goals as goal

pub returns-then-unit : goal.returns-then-unit
returns-then-unit c =
    let place : ℕ = trailing_zeros w64 c.args.unit in
    let power : c.args.unit ≡ 2 ^ place = sym c.if-unit.true ∙ one_shl place 64 (bit_at-trailing_zeros w64 c.args.unit c.requires c.ranges.unit.fits).0 in
    rw power (and_mask c.args.number place)
