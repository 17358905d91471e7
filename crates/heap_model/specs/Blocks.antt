-- Blocks as a caller sees them. A list of blocks is in the order of their starts.
use Rattle.std.specs.Prelude.{◌+◌, ◌≤◌, ◌⊎◌, ◌==◌, ◌&&◌, nat_le, nat_lt, not, ℕ, Bool, List, [], ◌∷◌, filter, sum_by, if◌then◌else◌}
use Rattle.std.specs.List.{list_any}

-- A block: its start, which is an address, and its length in bytes.
abbrev pub Span : Type 0
Span = ℕ × ℕ

abbrev pub start_of : Span → ℕ
start_of block = block.0

abbrev pub length_of : Span → ℕ
length_of block = block.1

-- The address after the block's last byte.
abbrev pub end_of : Span → ℕ
end_of block = start_of block + length_of block

-- b ends at or before the start of c.
abbrev pub IsBefore : Span → Span → Type 0
IsBefore b c = end_of b ≤ start_of c

-- b and c share no address.
abbrev pub IsApart : Span → Span → Type 0
IsApart b c = IsBefore b c ⊎ IsBefore c b

-- The blocks with one more, at its place in the order.
abbrev pub blocks_with : Span → List Span → List Span
blocks_with block [] = block ∷ []
blocks_with block (b ∷ blocks) =
    if nat_lt (start_of block) (start_of b) then block ∷ b ∷ blocks else b ∷ blocks_with block blocks

-- The block has just these bounds.
abbrev pub has_bounds : ℕ → ℕ → Span → Bool
has_bounds base top block = (start_of block == base) && (end_of block == top)

-- One of the blocks has just these bounds.
abbrev pub is_block : List Span → ℕ → ℕ → Bool
is_block blocks base top = list_any (has_bounds base top) blocks

-- The blocks but that one.
abbrev pub blocks_without : ℕ → ℕ → List Span → List Span
blocks_without base top blocks = filter (λ block. not (has_bounds base top block)) blocks

-- The address lies in the block.
abbrev pub has_address : ℕ → Span → Bool
has_address a block = nat_le (start_of block) a && nat_lt a (end_of block)

-- The address lies in one of the blocks.
abbrev pub lies_in : List Span → ℕ → Bool
lies_in blocks a = list_any (has_address a) blocks

-- The bytes of all the blocks.
abbrev pub bytes_in : List Span → ℕ
bytes_in blocks = sum_by length_of blocks
