use Rattle.std.proofs.Common.{◌≡◌, ◌-◌, ◌/◌, ◌+◌, ◌*◌, arith}
use Rattle.std.specs.Prelude.{bit_and}
use Rattle.std.proofs.lemmas.Bool.Decides.{nat_tests}
use Rattle.std.proofs.lemmas.Nat.{and_mask}
use Rattle.cap_codec.specs.Mantissas.{top_low}
use Rattle.cap_codec.proofs.MantissaLaws.{flag_masks}
use Rattle.cap_codec.proofs.corrected.mantissas_in.Goals as goal

pub returns-clause-exponent : goal.returns-clause-exponent
returns-clause-exponent c =
    let f = c.args.f in
    let x = flag_masks f.internal c.from-top_field.result c.bit-internal.result c.bit-internal.ensures in
    let y = flag_masks f.internal c.from-base_field.result c.bit-internal.result c.bit-internal.ensures in
    grind (arith, nat_tests)

pub returns-clause-base : goal.returns-clause-base
returns-clause-base c =
    let f = c.args.f in
    let y = flag_masks f.internal c.from-base_field.result c.bit-internal.result c.bit-internal.ensures in
    grind (arith, nat_tests)

pub returns-clause-top : goal.returns-clause-top
returns-clause-top c =
    let f = c.args.f in
    let base = returns-clause-base c in
    let x = flag_masks f.internal c.from-top_field.result c.bit-internal.result c.bit-internal.ensures in
    let low : c.from-top_field.result - bit_and c.from-top_field.result (7 * c.bit-internal.result) ≡ top_low f = grind (arith, nat_tests) in
    let twelve = and_mask (c.from-base_field.result - bit_and c.from-base_field.result (7 * c.bit-internal.result)) 12 in
    let two = and_mask ((c.from-base_field.result - bit_and c.from-base_field.result (7 * c.bit-internal.result)) / 4096 + c.bit-carry.result + c.bit-internal.result) 2 in
    grind (arith, nat_tests)
