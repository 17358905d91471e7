use Rattle.std.proofs.Common.{◌≤◌, ◌-◌, ◌^◌, arith, sym, subst}
use Rattle.cap_codec.specs.Fields.{IsValid}
use Rattle.cap_codec.proofs.EncodeLaws.{IsValid-with_bounds_of, with_bounds_of-long, with_bounds_of-short}
use Rattle.cap_codec.proofs.plain.rounding.set_bounds.Goals as goal

pub returns-then-top-from-lt-SHORT-clause-value : goal.returns-then-top-from-lt-SHORT-clause-value
returns-then-top-from-lt-SHORT-clause-value c = sym (with_bounds_of-short c.args.f c.args.base c.args.top (omega arith))

pub returns-else-top-from-lt-SHORT-clause-value : goal.returns-else-top-from-lt-SHORT-clause-value
returns-else-top-from-lt-SHORT-clause-value c =
    let long : 2 ^ 12 ≤ c.args.top - c.args.base = omega arith in
    let fields_are = with_bounds_of-long c.args.f c.args.base c.args.top c.first_exponent-exponent.result c.first_exponent-exponent.ensures.value long in
    cc

pub returns-else-top-from-lt-SHORT-clause-valid : goal.returns-else-top-from-lt-SHORT-clause-valid
returns-else-top-from-lt-SHORT-clause-valid c =
    subst IsValid (sym (returns-else-top-from-lt-SHORT-clause-value c)) (IsValid-with_bounds_of c.args.f c.args.base c.args.top c.requires.valid)
