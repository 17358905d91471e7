-- Where runs of ones start in a word.
use Rattle.std.specs.Prelude.{◌≡◌, ◌<◌, ◌+◌, ℕ, true}
use Rattle.granule_rows.specs.Runs.{AreSet}
use Rattle.granule_rows.specs.declared.word.Starts.{Starts}
use Rattle.tag_memory.specs.Tags.{is_set}

-- Bit j of t is 1 where n ones start at bit j of the word.
pub record AreStarts (word t n : ℕ) : Type 0 where
  pub runs : (i : ℕ) → is_set t i ≡ true → AreSet (is_set word) i n
  pub all : (i : ℕ) → AreSet (is_set word) i n → is_set t i ≡ true

-- Some run has this length, and none is longer by `more`.
pub record IsNearLongest (word : ℕ) (s : Starts) (more : ℕ) : Type 0 where
  pub starts : AreStarts word s.bits s.length
  pub some : 0 < s.bits
  pub most : (q n : ℕ) → AreSet (is_set word) q n → n < s.length + more
