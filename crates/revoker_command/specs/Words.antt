-- What the words of the program's command line ask for.
use Rattle.std.specs.Prelude.{◌≡◌, List, [], ◌∷◌, Option, Some, None, bytes_eq, codes, drop, if◌then◌else◌}
use Rattle.command_line.specs.Asked.{NamesStates, Text}
use Rattle.revoker_runs.specs.declared.answer.Way.{Way}
use Rattle.revoker_runs.specs.declared.answer.Way.TheVariants.{ByHand, Cornucopia, Reloaded}
use Rattle.revoker_command.specs.declared.words.Choice.{Choice}

-- Who has this name.
abbrev pub way_named : Text → Option Way
way_named name =
    if bytes_eq name (codes "by-hand") then Some ByHand
    else if bytes_eq name (codes "cornucopia") then Some Cornucopia
    else if bytes_eq name (codes "reloaded") then Some Reloaded
    else None

-- Who has the name that comes first.
abbrev pub way_in : List Text → Option Way
way_in [] = None
way_in (name ∷ words) = way_named name

-- After the program's name the words name who does the revoker's steps, and then these options.
pub record NamesPlan (words : List Text) (choice : Choice) : Type 0 where
  pub way : way_in (drop 1 words) ≡ Some choice.way
  pub options : NamesStates (drop 1 words) choice.options
