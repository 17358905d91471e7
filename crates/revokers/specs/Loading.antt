-- Whether no check failed.
use Rattle.std.specs.Prelude.{Bool, true, false, Option, Some, None}
use Rattle.heap_reply.specs.declared.reply.Trap.{Trap}

abbrev pub is_passed : Option Trap → Bool
is_passed None = true
is_passed (Some trap) = false
