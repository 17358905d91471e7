-- All that is said beside a log that gets a status, where memory serves.
use Rattle.std.specs.Prelude.{◌≡◌, ℕ, List, [], ◌++◌, Option, None, Some, Ok}
use Rattle.log_text.specs.Log.{Record, log_of}
use Rattle.log_notes.specs.Hint.{IsHint}
use Rattle.log_notes.specs.Part.{part_comment, part_line}

abbrev pub line_of_part : Option (List ℕ) → List ℕ
line_of_part None = []
line_of_part (Some comment) = part_line comment

-- That it has a part of a run, where it does; and before that what is wanted, where it is faulty and that is its status.
pub data AreNotes (log : List ℕ) : ℕ → List ℕ → Type 0 where
  of_part : (status : ℕ) → (status ≡ 3 → (read : Record) × (log_of log ≡ Ok read)) → AreNotes log status (line_of_part (part_comment log))
  of_fault : (hint : List ℕ) → IsHint log hint → AreNotes log 3 (hint ++ line_of_part (part_comment log))
