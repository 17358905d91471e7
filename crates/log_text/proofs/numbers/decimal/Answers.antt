use Rattle.std.proofs.Common.{◌+◌, sym, ◌∙◌, arith}
use Rattle.log_text.proofs.Numerals.{decimal_none, decimal_some, zero_written}
use Rattle.log_text.proofs.numbers.decimal.Goals as goal

pub returns-then-starts_with_zero-clause-value : goal.returns-then-starts_with_zero-clause-value
returns-then-starts_with_zero-clause-value c =
    sym (zero_written 10 (omega arith) (omega arith) (c.args.most + 1) c.args.word.now (omega arith) (sym c.starts_with_zero.ensures ∙ c.if-starts_with_zero.true))

pub returns-in_err-number-clause-value : goal.returns-in_err-number-clause-value
returns-in_err-number-clause-value c =
    let plain = sym c.starts_with_zero.ensures ∙ c.if-starts_with_zero.false in
    c.from_residual.ensures ∙ sym (decimal_none c.args.most c.args.word.now (omega arith) plain (sym c.in_err-number.ensures))

pub returns-clause-value : goal.returns-clause-value
returns-clause-value c =
    let plain = sym c.starts_with_zero.ensures ∙ c.if-starts_with_zero.false in
    sym (decimal_some c.args.most c.in_ok-number.number c.args.word.now (omega arith) plain (sym c.in_ok-number.ensures) c.if-number-most.false)
