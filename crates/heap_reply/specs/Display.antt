-- The texts of numbers and of places in reports and lines (this project's own profile).
use Rattle.std.specs.Prelude.{ℕ, Bool, List, [], ◌∷◌, ◌++◌, false, codes}
use Rattle.std.specs.Fmt.{decimal, digits}
use Rattle.cap_codec.specs.Fields.{bit_of}

-- The pieces, one after the other.
abbrev pub join_pieces : List (List ℕ) → List ℕ
join_pieces [] = []
join_pieces (x ∷ []) = x
join_pieces (x ∷ y ∷ xs) = x ++ join_pieces (y ∷ xs)

-- `0x` and the lower-case hexadecimal digits, without leading zeros (`0x0` for zero).
abbrev pub hexadecimal_text : ℕ → List ℕ
hexadecimal_text n = codes "0x" ++ digits 16 false n

-- `1` for true and `0` for false.
abbrev pub bit_text : Bool → List ℕ
bit_text b = decimal (bit_of b)

-- An address, and bounds.
abbrev pub bounded_address_text : ℕ → ℕ → ℕ → List ℕ
bounded_address_text address base top =
    join_pieces (codes "address " ∷ hexadecimal_text address ∷ codes " base " ∷ hexadecimal_text base ∷ codes " top " ∷ hexadecimal_text top ∷ [])
