-- What data tells of a cell: whether it is tagged, its word as the 16 bytes of memory, and what the word decodes to.
-- Addresses are texts, since they pass what numbers of JSON hold exactly elsewhere.
use Rattle.std.specs.Prelude.{List, [], ◌∷◌, ◌++◌, codes}
use Rattle.std.specs.Fmt.{decimal}
use Rattle.cap_codec.specs.Bytes.{bytes_of}
use Rattle.hex.specs.Hex.{encode_lower}
use Rattle.json.specs.Token.{Token, boolean, key, number, string}
use Rattle.heap_reply.specs.Display.{hexadecimal_text}
use Rattle.heap_reply.specs.Shown.{shown_of}
use Rattle.heap_reply.specs.declared.reply.Shown.{Shown}
use Rattle.tag_memory.specs.Cells.{Cell}

-- An address, and bounds.
abbrev pub bounded_address_tokens : Shown → List Token
bounded_address_tokens s =
    key (codes "address") ∷ string (hexadecimal_text s.address) ∷ key (codes "base") ∷ string (hexadecimal_text s.base)
    ∷ key (codes "top") ∷ string (hexadecimal_text s.top) ∷ []

-- Permissions, type and exponent.
abbrev pub rights_tokens : Shown → List Token
rights_tokens s =
    key (codes "perms") ∷ number (decimal s.perms) ∷ key (codes "type") ∷ number (decimal s.otype)
    ∷ key (codes "exponent") ∷ number (decimal s.exponent) ∷ []

-- A cell.
abbrev pub cell_tokens : Cell → List Token
cell_tokens c =
    key (codes "tag") ∷ boolean c.1 ∷ key (codes "word") ∷ string (encode_lower (bytes_of c.0.bits))
    ∷ (bounded_address_tokens (shown_of c) ++ rights_tokens (shown_of c))
