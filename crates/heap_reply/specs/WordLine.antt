-- The line that tells a word.
use Rattle.std.specs.Prelude.{ℕ, List, [], ◌∷◌, codes}
use Rattle.std.specs.Fmt.{decimal}
use Rattle.std.specs.List.{concat}
use Rattle.cap_codec.specs.declared.word.Bounds.{Bounds}
use Rattle.cap_codec.specs.declared.word.Fields.{Fields}
use Rattle.cap_codec.specs.declared.word.Word.{Word}
use Rattle.cap_codec.specs.Fields.{fields_of}
use Rattle.cap_codec.specs.Words.{bounds_in}
use Rattle.cap_codec.specs.Mantissas.{exponent_of}
use Rattle.heap_reply.specs.Display.{bit_text, hexadecimal_text, bounded_address_text}

-- What a word with these fields allows, and its type.
abbrev pub rights_text : Fields → List ℕ
rights_text f =
    concat (codes "perms " ∷ hexadecimal_text f.perms ∷ codes " reserved " ∷ decimal f.reserved ∷ codes " flag " ∷ bit_text f.flag ∷ codes " type " ∷ hexadecimal_text f.otype ∷ [])

-- How a word with these fields, and so this exponent, encodes its bounds.
abbrev pub encoding_text : Fields → ℕ → List ℕ
encoding_text f exponent =
    concat (
    codes "internal " ∷ bit_text f.internal ∷ codes " exponent " ∷ decimal exponent
    ∷ codes " topfield " ∷ hexadecimal_text f.top12 ∷ codes " basefield " ∷ hexadecimal_text f.base14 ∷ []
    )

-- The line of a word with these fields, bounds and exponent.
abbrev pub line_with : Fields → Bounds → ℕ → List ℕ
line_with f bounds exponent =
    concat (bounded_address_text f.address bounds.base bounds.top ∷ codes " " ∷ rights_text f ∷ codes " " ∷ encoding_text f exponent ∷ codes "\n" ∷ [])

-- The line of a word: its fields, and the bounds and the exponent that they encode.
abbrev pub word_line : Word → List ℕ
word_line w = line_with (fields_of w) (bounds_in w) (exponent_of (fields_of w))
