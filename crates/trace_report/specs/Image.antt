-- The text of an image: the granules of a memory that hold anything (this project's own profile).
use Rattle.std.specs.Prelude.{ℕ, ◌+◌, ◌==◌, ◌||◌, Bool, not, if◌then◌else◌, List, [], ◌∷◌, ◌++◌, codes}
use Rattle.std.specs.List.{concat}
use Rattle.cap_codec.specs.Bytes.{bytes_of}
use Rattle.hex.specs.Hex.{encode_lower}
use Rattle.heap_reply.specs.Display.{bit_text, hexadecimal_text}
use Rattle.tag_memory.specs.Cells.{Granule}

-- A granule that is tagged or not all zero: these have a line, and no others.
abbrev pub is_imaged : Granule → Bool
is_imaged granule = granule.1 || not (granule.0 == 0)

-- The line of a granule at this address: address, tag, and its 16 bytes in the order of memory, two
-- lower-case hexadecimal digits each.
abbrev pub image_line : ℕ → Granule → List ℕ
image_line address granule =
    concat (hexadecimal_text address ∷ codes " " ∷ bit_text granule.1 ∷ codes " " ∷ encode_lower (bytes_of granule.0) ∷ codes "\n" ∷ [])

-- What an image has of the granule at this address: its line, or nothing.
abbrev pub granule_text : ℕ → Granule → List ℕ
granule_text address granule = if is_imaged granule then image_line address granule else []

-- The image of granules that lie one after the other from this address on.
abbrev pub image_of : ℕ → List Granule → List ℕ
image_of address [] = []
image_of address (granule ∷ granules) = granule_text address granule ++ image_of (address + 16) granules
