-- Sets of bits as rows of words: bit j of word w stands at place 64 * w + j (this project's own form).
-- Sets are compared and united word by word.
use Rattle.std.specs.Prelude.{◌≡◌, ℕ, ◌+◌, ◌*◌, ◌/◌, ◌%◌, ◌^◌, ◌<◌, ◌≤◌, List, [], ◌∷◌, bit_and, bit_or, slice_index, slice_set}
use Rattle.std.specs.Int.{bit_at, bit_not, w64}

-- Bit j of word w of the set, 0 or 1.
abbrev pub bit : List ℕ → ℕ → ℕ → ℕ
bit words w j = bit_at (slice_index words w) j

-- Bit k of the set, 0 or 1.
abbrev pub has : List ℕ → ℕ → ℕ
has words k = bit words (k / 64) (k % 64)

-- Each word of the set is a number of 64 bits.
abbrev pub AreWords : List ℕ → Type 0
AreWords words = (w : ℕ) → slice_index words w < 2 ^ 64

-- Each bit of the first set is in the second.
abbrev pub Within : List ℕ → List ℕ → Type 0
Within first second = (w j : ℕ) → bit first w j ≤ bit second w j

-- No bit is in both sets.
abbrev pub Apart : List ℕ → List ℕ → Type 0
Apart first second = (w j : ℕ) → bit first w j + bit second w j ≤ 1

-- No bit of the set stands at the place `bits` or past it.
abbrev pub LiesOnBoard : ℕ → List ℕ → Type 0
LiesOnBoard bits words = (w j : ℕ) → bits ≤ 64 * w + j → bit words w j ≡ 0

-- The set with these bits of word w, too.
abbrev pub with_bits : List ℕ → ℕ → ℕ → List ℕ
with_bits words w more = slice_set words w (bit_or (slice_index words w) more)

-- Both sets together.
abbrev pub union : List ℕ → List ℕ → List ℕ
union [] second = second
union (x ∷ xs) [] = x ∷ xs
union (x ∷ xs) (y ∷ ys) = bit_or x y ∷ union xs ys

-- The bits of a mask that a word hasn't.
abbrev pub bits_without : ℕ → ℕ → ℕ
bits_without mask word = bit_and mask (bit_not w64 word)
