use Rattle.std.proofs.Common.{◌≡◌, ◌+◌, ◌/◌, ◌%◌, ◌^◌, arith, rules, ap, ◌∙◌, w8, w64, refl}
use Rattle.std.specs.Int.{cast_unsigned}
use Rattle.std.proofs.lemmas.Int.{ints, to_z-of_z}
use Rattle.cap_codec.proofs.CorrectedBounds.{place_with-congruent}
use Rattle.cap_codec.proofs.corrected.corrected_place.Goals as goal

pub returns : goal.returns
returns c =
    let x = c.wrapping_add_signed-upper in
    let correction_is : c.from.result ≡ c.args.correction = c.from.ensures ∙ to_z-of_z w8 c.args.correction c.ranges.correction in
    let x_is : x.result ≡ (c.args.address / 2 ^ c.args.exponent / 2 ^ 14 + cast_unsigned w64 c.args.correction) % 2 ^ 64 =
    x.ensures ∙ ap (λ z. (c.args.address / 2 ^ c.args.exponent / 2 ^ 14 + cast_unsigned w64 z) % 2 ^ 64) (to_z-of_z w64 c.from.result (search rules) ∙ correction_is) in
    place_with-congruent c.args.address c.args.exponent c.args.mantissa c.args.correction (omega (arith, ints, c.ranges.correction.sfits)) x_is refl
