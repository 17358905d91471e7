-- The lines of a text and the words of a line, in this project's own trace language.
use Rattle.std.specs.Prelude.{ℕ, Bool, true, false, List, [], ◌∷◌, Option, Some, None, filter, nat_eq, codes, bytes_eq, ◌==◌, ◌||◌, if◌then◌else◌}
use Rattle.std.specs.List.{slice_split, onto_first, starts_with}
use Rattle.std.specs.Option.{option_map}

-- The most bytes that the text of a trace has.
abbrev pub longest_text : ℕ
longest_text = 4194304

-- Byte 10 ends a line. The last line may lack it, and an empty piece after the last byte 10 is no line.
abbrev pub lines_of : List ℕ → List (List ℕ)
lines_of [] = []
lines_of (byte ∷ bytes) =
    if byte == 10 then [] ∷ lines_of bytes else onto_first byte (lines_of bytes)

-- space, tab and byte 13
abbrev pub is_blank : ℕ → Bool
is_blank byte = byte == 32 || (byte == 9 || byte == 13)

abbrev pub is_nonempty : List ℕ → Bool
is_nonempty [] = false
is_nonempty (byte ∷ bytes) = true

-- the longest runs of bytes that are not blank
abbrev pub words_of : List ℕ → List (List ℕ)
words_of line = filter is_nonempty (slice_split is_blank line)

-- the words of a line that is passed over: there is none, or the first begins with #
abbrev pub is_passed_over : List (List ℕ) → Bool
is_passed_over [] = true
is_passed_over (word ∷ words) = starts_with nat_eq word (codes "#")

-- the words before the first that is this one, and those after it
abbrev pub split_at_first : List ℕ → List (List ℕ) → Option (List (List ℕ) × List (List ℕ))
split_at_first word [] = None
split_at_first word (first ∷ others) =
    if bytes_eq first word then Some ([], others)
    else option_map (λ parts. (first ∷ parts.0, parts.1)) (split_at_first word others)
