-- The digits of what is left stand before those that are written.
use Rattle.std.proofs.Common.{◌≡◌, ◌+◌, ◌≤◌, ◌++◌, false, length, drop}
use Rattle.std.specs.Fmt.{digits}
use Rattle.heap_reply.proofs.digits.write_wide_hexadecimal.Given as goal

abbrev pub invariant-loop-rest : goal.invariant-loop-rest
invariant-loop-rest l =
    (length (digits 16 false l.rest) ≤ l.at) × (l.at ≤ l.end)
    × (l.at + length (digits 16 false l.n) ≡ l.end + length (digits 16 false l.rest))
    × (digits 16 false l.rest ++ drop l.at l.room ≡ digits 16 false l.n ++ drop l.end l.fn.room)

abbrev pub decreases-loop-rest : goal.decreases-loop-rest
decreases-loop-rest l = l.rest
