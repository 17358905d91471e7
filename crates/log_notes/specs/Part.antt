-- Which texts say that they tell a part of a run alone, and what is said of these on standard error.
use Rattle.std.specs.Prelude.{◌≡◌, ℕ, List, [], ◌∷◌, ◌++◌, Option, None, Some, nat_eq, nat_le, ◌&&◌, codes, drop, map, take, if◌then◌else◌}
use Rattle.std.specs.List.{starts_with}
use Rattle.trace_text.specs.Lines.{lines_of}

-- How the last line of such a text begins, which is a comment.
abbrev pub part_words : List ℕ
part_words = codes "# Part: "

abbrev pub last_of : List (List ℕ) → List ℕ
last_of [] = []
last_of (line ∷ []) = line
last_of (line ∷ next ∷ lines) = last_of (next ∷ lines)

unfoldable pub last_line : List ℕ → List ℕ
last_line text = last_of (lines_of text)

-- What it says behind these words.
abbrev pub comment_in : List ℕ → Option (List ℕ)
comment_in line = if starts_with nat_eq line part_words then Some (drop 8 line) else None

abbrev pub part_comment : List ℕ → Option (List ℕ)
part_comment text = comment_in (last_line text)

-- ---- what is said

-- Whatever isn't printed is told as a `?`.
abbrev pub shown_byte : ℕ → ℕ
shown_byte byte = if nat_le 32 byte && nat_le byte 126 then byte else 63

abbrev pub begun_part : List ℕ
begun_part = codes "heap_check: the log has a part: "

-- No more is told of a comment.
abbrev pub most_comment : ℕ
most_comment = 600

abbrev pub part_line : List ℕ → List ℕ
part_line comment = begun_part ++ (map shown_byte (take most_comment comment) ++ (10 ∷ []))

-- Where memory for the comment lacks.
abbrev pub bare_line : List ℕ
bare_line = codes "heap_check: the log has a part, as its last line says\n"

-- What is said of a text: nothing where it tells a whole run, and else the comment.
pub data IsPartTold (text : List ℕ) : List ℕ → Type 0 where
  whole_run : part_comment text ≡ None → IsPartTold text []
  told : (comment : List ℕ) → part_comment text ≡ Some comment → IsPartTold text (part_line comment)
  lacks_memory : (comment : List ℕ) → part_comment text ≡ Some comment → IsPartTold text bare_line
