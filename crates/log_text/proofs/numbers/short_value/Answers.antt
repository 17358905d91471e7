use Rattle.std.proofs.Common.{add-one, sym, ◌∙◌, arith}
use Rattle.log_text.proofs.Numerals.{digits_next, digits_read, next_below, next_fits, other_written}
use Rattle.log_text.proofs.numbers.short_value.Goals as goal

pub returns-in_err-digit-clause-value : goal.returns-in_err-digit-clause-value
returns-in_err-digit-clause-value c most within few =
    c.from_residual.ensures ∙ sym (other_written most c.args.digits.now c.loop-byte.byte-index few c.loop-byte-test.true c.in_err-digit.ensures.none)

pub overflow_mul-value : goal.overflow_mul-value
overflow_mul-value c = omega (arith, next_fits 16 c.loop-byte.byte-index c.loop-byte.value 0 (omega arith) c.loop-byte.invariant.below (omega arith))

pub overflow_add-value : goal.overflow_add-value
overflow_add-value c =
    omega (arith, c.from.ensures, next_fits 16 c.loop-byte.byte-index c.loop-byte.value c.in_ok-digit.digit (omega arith) c.loop-byte.invariant.below c.in_ok-digit.ensures.some.0)

pub loop-byte-preserved : goal.loop-byte-preserved
loop-byte-preserved c =
    let digit = c.in_ok-digit.ensures.some in
    let i = c.loop-byte.byte-index in
    let value = c.loop-byte.value in
    rw (c.from.ensures, add-one) (record {
      below = next_below i value c.in_ok-digit.digit c.loop-byte.invariant.below digit.0;
      text = λ _. digits_next c.args.digits.now i value c.in_ok-digit.digit c.loop-byte-test.true (omega arith) c.requires.plain c.loop-byte.invariant.below c.loop-byte.invariant.text digit.0 digit.1;
    })

pub returns-clause-value : goal.returns-clause-value
returns-clause-value c most within few =
    sym (digits_read most c.loop-byte.value c.args.digits.now c.loop-byte.byte-index c.requires.some within few (omega arith) c.loop-byte.invariant.below c.loop-byte.invariant.text).1
