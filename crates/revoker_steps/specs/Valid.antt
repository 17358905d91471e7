-- A revoker's commands that can be carried out.
use Rattle.std.specs.Prelude.{◌<◌}
use Rattle.tag_memory.specs.Cells.{register_count}
use Rattle.revoker_steps.specs.declared.command.RevokerCommand.{RevokerCommand}
use Rattle.revoker_steps.specs.declared.command.RevokerCommand.TheVariants.{Paint, Release, UntagGranule, UntagRegister, Visit}

-- The register number is that of a register. Pages and addresses are checked as the command is done.
abbrev pub IsValid : RevokerCommand → Type 0
IsValid Paint = Unit {0}
IsValid (Visit page) = Unit {0}
IsValid (UntagGranule address) = Unit {0}
IsValid (UntagRegister r) = r < register_count
IsValid Release = Unit {0}
