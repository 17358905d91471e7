-- Runs of free granules in a row of words: bit j of word w is 1 where granule 64 * w + j is free.
use Rattle.std.specs.Prelude.{◌≡◌, ◌<◌, ◌≤◌, ◌+◌, ◌-◌, ◌*◌, ◌%◌, nat_le, nat_lt, ◌&&◌, ℕ, Bool, true, List, length}
use Rattle.std.specs.Int.{next_multiple_of}
use Rattle.tag_memory.specs.Tags.{is_set_for}

-- Granule k lies from `first` on and before `end`.
abbrev pub is_within : ℕ → ℕ → ℕ → Bool
is_within first end k = nat_le first k && nat_lt k end

-- The n bits from p on are 1.
pub record AreSet (bits : ℕ → Bool) (p n : ℕ) : Type 0 where
  pub each : (k : ℕ) → p ≤ k → k < p + n → bits k ≡ true

-- The n granules from p on, at least one, are free.
pub record IsRun (words : List ℕ) (p n : ℕ) : Type 0 where
  pub some : 0 < n
  pub end : p + n ≤ 64 * length words
  pub free : AreSet (is_set_for words) p n

-- And p is the first such granule from `from` on.
pub record IsFirstRun (words : List ℕ) (from n p : ℕ) : Type 0 where
  pub run : IsRun words p n
  pub after : from ≤ p
  pub least : (q : ℕ) → from ≤ q → IsRun words q n → p ≤ q

-- The first granule from k on that is a multiple of the unit. Multiples are counted from address 0, of
-- which the heap's base is granule `origin`.
abbrev pub aligned_from : ℕ → ℕ → ℕ → ℕ
aligned_from origin unit k = next_multiple_of (origin + k) unit - origin

-- p is the first such granule from which n granules are free.
pub record IsFirstMultiple (words : List ℕ) (origin unit n p : ℕ) : Type 0 where
  pub run : IsRun words p n
  pub multiple : (origin + p) % unit ≡ 0
  pub least : (q : ℕ) → IsRun words q n → (origin + q) % unit ≡ 0 → p ≤ q

-- p is the first place from `from` on where n bits in a row are 1.
pub record IsFirst (bits : ℕ → Bool) (from n p : ℕ) : Type 0 where
  pub run : AreSet bits p n
  pub after : from ≤ p
  pub least : (q : ℕ) → from ≤ q → AreSet bits q n → p ≤ q

-- n bits in a row are 1, from `at` on.
pub record HasRun (bits : ℕ → Bool) (n : ℕ) : Type 0 where
  pub at : ℕ
  pub run : AreSet bits at n

-- These bits, but 0 for those before `from`.
abbrev pub test_from : ℕ → (ℕ → Bool) → ℕ → Bool
test_from from bits k = nat_le from k && bits k
