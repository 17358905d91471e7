use Rattle.std.proofs.Common.{arith}
use Rattle.trace_text.proofs.Digits.{sixteenth_fits}
use Rattle.trace_text.proofs.operand.hexadecimal.Goals as goal

pub overflow_mul-value : goal.overflow_mul-value
overflow_mul-value c = omega (arith, sixteenth_fits c.loop-byte.byte-index c.loop-byte.value (omega arith) c.loop-byte.invariant.0)

pub overflow_add-value : goal.overflow_add-value
overflow_add-value c = omega (arith, sixteenth_fits c.loop-byte.byte-index c.loop-byte.value (omega arith) c.loop-byte.invariant.0)
