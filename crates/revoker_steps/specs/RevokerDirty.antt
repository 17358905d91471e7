-- Dirty pages beside a revoker's commands (Filardo et al. 2020, Cornucopia): once blocks are painted every page is dirty, and
-- a page that was visited is clean.
use Rattle.std.specs.Prelude.{Bool, false, List, Option, Some, None, slice_set}
use Rattle.tag_memory.specs.Cells.{all_dirty}
use Rattle.machine_steps.specs.State.{State}
use Rattle.revoker_steps.specs.declared.command.RevokerCommand.{RevokerCommand}
use Rattle.revoker_steps.specs.declared.command.RevokerCommand.TheVariants.{Paint, Release, UntagGranule, UntagRegister, Visit}
use Rattle.revoker_steps.specs.declared.command.RevokerTrap.{RevokerTrap}
use Rattle.revoker_steps.specs.Revoker.{first_failed_check, revoker_checks}

-- The dirty pages after a command that is trapped, and after one that isn't.
abbrev pub revoker_dirty_by : Option RevokerTrap → RevokerCommand → List Bool → List Bool
revoker_dirty_by (Some trap) command dirty = dirty
revoker_dirty_by None Paint dirty = all_dirty dirty
revoker_dirty_by None (Visit page) dirty = slice_set dirty page false
revoker_dirty_by None (UntagGranule address) dirty = dirty
revoker_dirty_by None (UntagRegister r) dirty = dirty
revoker_dirty_by None Release dirty = dirty

-- The dirty pages after a revoker's command is done in this state.
abbrev pub revoker_dirty_after : State → RevokerCommand → List Bool → List Bool
revoker_dirty_after s command dirty = revoker_dirty_by (first_failed_check (revoker_checks s command)) command dirty
