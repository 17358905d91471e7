use Rattle.std.proofs.Common.{◌≡◌, ◌<◌, ◌^◌, drop}
use Rattle.trace_text.proofs.Digits.{value_after}
use Rattle.trace_text.proofs.operand.hexadecimal.Given as goal

-- the digits that are left, after the value so far, write what all of them write
abbrev pub invariant-loop-byte : goal.invariant-loop-byte
invariant-loop-byte l = (l.value < 16 ^ l.byte-index) × (value_after 16 l.value (drop l.byte-index l.digits) ≡ value_after 16 0 l.digits)
