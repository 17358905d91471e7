-- What a revoker did, told one after another, and the room for it.
use Rattle.std.specs.Prelude.{◌≡◌, ◌==◌, ◌+◌, ◌++◌, ◌≤◌, ℕ, Bool, false, List, [], ◌∷◌, if◌then◌else◌, Vec}
use Rattle.std.specs.Vec.{vec_capacity, vec_len}
use Rattle.revoker_steps.specs.declared.command.RevokerCommand.TheVariants.{UntagRegister, Visit}
use Rattle.revoker_steps.specs.declared.command.RevokerReply.{RevokerReply}
use Rattle.revoker_steps.specs.declared.command.RevokerReply.TheVariants.{Cleared, Done, Released, Trap}
use Rattle.revokers.specs.declared.acts.Act.{Act}

-- A visit of each of these pages, answered so.
abbrev pub visit_acts : List (ℕ × RevokerReply) → List Act
visit_acts [] = []
visit_acts (it ∷ rest) = record { command = Visit it.0; reply = it.1 } ∷ visit_acts rest

-- No tag was taken, since there was none to take.
abbrev pub takes_none : RevokerReply → Bool
takes_none Done = false
takes_none (Cleared cleared) = cleared == 0
takes_none (Released bytes) = false
takes_none (Trap trap) = false

-- An untag of a register, where it took the tag.
abbrev pub untag_act : ℕ → RevokerReply → List Act
untag_act r reply = if takes_none reply then [] else record { command = UntagRegister r; reply = reply } ∷ []

-- An untag of each of these registers that lost its tag.
abbrev pub untag_acts : List (ℕ × RevokerReply) → List Act
untag_acts [] = []
untag_acts (it ∷ rest) = untag_act it.0 it.1 ++ untag_acts rest

-- There is room for so many more.
abbrev pub HasRoom : {X Z : Type 0} → ℕ → Vec X Z → Type 0
HasRoom n acts = vec_len acts + n ≤ vec_capacity acts

-- So many more are told at most, in the room that there was.
pub record Tells {X Z : Type 0} (n : ℕ) (old new : Vec X Z) : Type 0 where
  pub capacity : vec_capacity new ≡ vec_capacity old
  pub few : vec_len new ≤ vec_len old + n
