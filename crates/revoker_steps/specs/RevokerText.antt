-- What a revoker's commands are answered, in words (this project's own profile).
use Rattle.std.specs.Prelude.{ℕ, List, ◌++◌, codes}
use Rattle.std.specs.Fmt.{decimal}
use Rattle.revoker_steps.specs.declared.command.RevokerReply.{RevokerReply}
use Rattle.revoker_steps.specs.declared.command.RevokerReply.TheVariants.{Cleared, Done, Released}
use Rattle.revoker_steps.specs.declared.command.RevokerReply.TheVariants as reply
use Rattle.revoker_steps.specs.declared.command.RevokerTrap.{RevokerTrap}
use Rattle.revoker_steps.specs.declared.command.RevokerTrap.TheVariants as trap

abbrev pub revoker_trap_name : RevokerTrap → List ℕ
revoker_trap_name trap.Open = codes "open"
revoker_trap_name trap.NotOpen = codes "notopen"
revoker_trap_name trap.Bounds = codes "bounds"
revoker_trap_name trap.Align = codes "align"
revoker_trap_name trap.Left = codes "left"

-- What a command is answered.
abbrev pub text_of_revoker_reply : RevokerReply → List ℕ
text_of_revoker_reply Done = codes "ok"
text_of_revoker_reply (Cleared cleared) = codes "cleared " ++ decimal cleared
text_of_revoker_reply (Released bytes) = codes "released " ++ decimal bytes
text_of_revoker_reply (reply.Trap t) = codes "trap " ++ revoker_trap_name t
