-- In which granule of a memory the base of a word lies.
use Rattle.std.specs.Prelude.{ℕ, ◌-◌, ◌/◌, ◌^◌, ◌&&◌, List, if◌then◌else◌, map, nat_le, nat_lt}
use Rattle.cap_codec.specs.Words.{base_of}
use Rattle.cap_codec.specs.declared.word.Word.{Word}

-- What stands for a base before the memory, or so far behind its start that 32 bits don't hold its granule's number.
abbrev pub far : ℕ
far = 2 ^ 32 - 1

-- The granule in which the base of a word lies, counted from the address at which a memory starts.
unfoldable pub base_granule : ℕ → Word → ℕ
base_granule start w =
    if nat_le start (base_of w) && nat_lt ((base_of w - start) / 16) far then (base_of w - start) / 16 else far

-- Those of the words that these numbers are.
abbrev pub base_granules : ℕ → List ℕ → List ℕ
base_granules start numbers = map (λ number. base_granule start (record { bits = number })) numbers
