use Rattle.std.proofs.Common.{◌≡◌, ◌+◌, ◌*◌, ◌%◌, ◌^◌, arith, rules, subst, w8, to_z, of_z}
use Rattle.std.proofs.lemmas.Int.{to_z-of_z}
use Rattle.cap_codec.specs.declared.word.Fields.{Fields}
use Rattle.cap_codec.specs.Bounds.{IsBounds}
use Rattle.cap_codec.proofs.BoundsLaws.{IsBounds-unique}
use Rattle.cap_codec.proofs.CorrectedBounds.{IsBounds-parts, bounds_of-unique}
use Rattle.cap_codec.proofs.corrected.bounds.Goals as goal

pub returns-clause-meets : goal.returns-clause-meets
returns-clause-meets c =
    let m = c.mantissas_in-exponent in
    let bit = c.top_bit-bit_64 in
    let first = c.corrections_in-first.result.0 in
    let second = c.corrections_in-first.result.1 in
    let first_is : to_z w8 (of_z w8 first) ≡ first = to_z-of_z w8 first (search rules) in
    let second_is : to_z w8 (of_z w8 second) ≡ second = to_z-of_z w8 second (search rules) in
    let top = c.from.result * 2 ^ 64 % 2 ^ 128 + c.from-2.result in
    subst (λ (f : Fields). IsBounds f c.corrected_place-base.result top) c.fields-f.ensures.value
    (IsBounds-parts m.ensures.exponent m.ensures.base m.ensures.top c.corrections_in-first.ensures
    (rw first_is at c.corrected_place-base.ensures) (rw second_is at c.corrected_place-top.ensures)
    bit.ensures.limit bit.ensures.small bit.ensures.large (omega arith) (omega arith) (omega arith))

pub returns-clause-value : goal.returns-clause-value
returns-clause-value c = bounds_of-unique (returns-clause-meets c)

pub returns-clause-only : goal.returns-clause-only
returns-clause-only c = λ base top h. IsBounds-unique h (returns-clause-meets c)
