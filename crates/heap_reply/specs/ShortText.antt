-- A short text stands at the end of a room of 256 bytes.
use Rattle.std.specs.Prelude.{ℕ, ◌≤◌, List, drop}
use Rattle.std.specs.Str.{IsUtf8}

-- From this start on the room has a text.
pub record IsShortText (start : ℕ) (room : List ℕ) : Type 0 where
  pub within : start ≤ 256
  pub utf8 : IsUtf8 (drop start room)
