-- What was written into a room for bytes, and what stands in it.
use Rattle.std.specs.Prelude.{◌≡◌, ◌+◌, ◌++◌, ℕ, List, drop, length, take}

-- The piece was written at a place of the old bytes, and nothing else.
abbrev pub IsWritten : List ℕ → ℕ → List ℕ → List ℕ → Type 0
IsWritten old at piece new = new ≡ take at old ++ (piece ++ drop (at + length piece) old)

-- The piece stands at a place of the bytes.
pub record StandsAt (bytes : List ℕ) (at : ℕ) (piece : List ℕ) : Type 0 where
  pub rest : List ℕ
  pub is : drop at bytes ≡ piece ++ rest
