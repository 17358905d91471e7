-- A page is looked at where it wasn't seen.
use Rattle.std.specs.Prelude.{◌≡◌, ◌++◌, ℕ, Bool, true, false, List, [], ◌∷◌}
use Rattle.revoker_steps.specs.declared.command.RevokerCommand.TheVariants.{Visit}
use Rattle.revoker_steps.specs.declared.command.RevokerReply.TheVariants.{Cleared}
use Rattle.revokers.specs.Reloaded.{IsLooked, ReloadedState}
use Rattle.revokers.specs.declared.acts.Act.{Act}

-- Where the page was seen it is passed over; else it is visited, which is told.
abbrev pub LooksAt : Bool → ℕ → ReloadedState → List Act → ℕ → ReloadedState → List Act → Type 0
LooksAt true page old before cleared new after = (cleared ≡ 0) × (new ≡ old) × (after ≡ before)
LooksAt false page old before cleared new after = IsLooked page old cleared new × (after ≡ before ++ record { command = Visit page; reply = Cleared cleared } ∷ [])
