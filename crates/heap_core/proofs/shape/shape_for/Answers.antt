use Rattle.std.proofs.Common.{◌*◌, ◌-◌, ◌^◌, ◌<◌, refl, sym, arith}
use Rattle.heap_model.specs.SizeLaws.{IsExact-short, granules_of_unit, length_for_granules, short_length, short_unit, unit_some}
use Rattle.heap_core.proofs.shape.shape_for.Goals as goal

pub returns-then-granules-lt-SHORT_GRANULES : goal.returns-then-granules-lt-SHORT_GRANULES
returns-then-granules-lt-SHORT_GRANULES c =
    let short : 16 * c.args.granules < 2 ^ 12 = omega arith in
    record {
      granules = sym (short_length _ short);
      exact = λ base unit room. IsExact-short _ short base;
      unit = rw (short_unit _ short) refl;
      some = c.requires.some;
      granules_limit = omega arith;
      unit_limit = omega arith;
    }

pub returns-clause-granules : goal.returns-clause-granules
returns-clause-granules c =
    rw c.from.ensures (omega (arith, length_for_granules (16 * c.args.granules) (omega arith), c.representable_length-length.ensures.value))

pub returns-clause-unit : goal.returns-clause-unit
returns-clause-unit c =
    let mask = c.alignment_mask-rest in
    granules_of_unit (16 * c.args.granules) (18446744073709551615 - mask.result)
    (omega (arith, mask.ensures, unit_some (16 * c.args.granules)))

pub returns-clause-exact : goal.returns-clause-exact
returns-clause-exact c =
    let length = c.representable_length-length.ensures in
    λ base unit room. rw (← length.value) (length.exact base unit (rw length.value room))
