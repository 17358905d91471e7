-- What a revoker's reply tells.
use Rattle.std.specs.Prelude.{ℕ}
use Rattle.revoker_steps.specs.declared.command.RevokerReply.{RevokerReply}
use Rattle.revoker_steps.specs.declared.command.RevokerReply.TheVariants.{Cleared, Done, Released, Trap}

-- How many bytes it says are free again.
abbrev pub released_by : RevokerReply → ℕ
released_by Done = 0
released_by (Cleared cleared) = 0
released_by (Released bytes) = bytes
released_by (Trap trap) = 0
