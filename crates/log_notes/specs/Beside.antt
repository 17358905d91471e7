-- What is said on standard error beside what is answered for a log.
use Rattle.std.specs.Prelude.{ℕ, List, ◌++◌}
use Rattle.log_notes.specs.Part.{IsPartTold}
use Rattle.log_notes.specs.Hint.{IsHint}

-- What is said of a log that gets this status: that it has a part of a run, where it does, and before that what is wanted where it is
-- faulty. For that memory may lack.
pub data IsBeside (input : List ℕ) : ℕ → List ℕ → Type 0 where
  tells_part : (status : ℕ) (part : List ℕ) → IsPartTold input part → IsBeside input status part
  hints : (hint part : List ℕ) → IsHint input hint → IsPartTold input part → IsBeside input 3 (hint ++ part)
