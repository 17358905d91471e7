use Rattle.std.proofs.Common.{rules}
use Rattle.trace_text.proofs.Digits.{all_read, numeral_value, too_large}
use Rattle.trace_text.proofs.operand.decimal.Goals as goal

pub returns-in_err-shifted : goal.returns-in_err-shifted
returns-in_err-shifted c = search (rules, too_large 10 c.loop-byte.value c.args.digits.now c.loop-byte.byte-index, numeral_value 10 c.args.most c.args.digits.now)

pub returns-in_err-value : goal.returns-in_err-value
returns-in_err-value c = search (rules, too_large 10 c.loop-byte.value c.args.digits.now c.loop-byte.byte-index, numeral_value 10 c.args.most c.args.digits.now)

pub returns : goal.returns
returns c = search (rules, all_read 10 c.loop-byte.value c.args.digits.now c.loop-byte.byte-index, numeral_value 10 c.args.most c.args.digits.now)
