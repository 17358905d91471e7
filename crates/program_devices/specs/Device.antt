-- What reads and writes of a device do to the bytes that are known of it.
use Rattle.std.specs.Prelude.{◌≡◌, ◌≢◌, ℕ, ◌≤◌, ◌+◌, Bool, ◌||◌, true, false, List, ◌++◌, ◌<◌, length, take, Option, Result, is_err}
use Rattle.std.specs.Io.KnownBytes.{Appends, Consumes, IsAtEnd}
use Rattle.trace_text.specs.Lines.{longest_text}

-- The most bytes that are read: one more than a trace has.
abbrev pub most_read : ℕ
most_read = longest_text + 1

-- known bytes grow by a beginning of bs
abbrev pub AppendsBeginning : Option (List ℕ) → Option (List ℕ) → List ℕ → Type 0
AppendsBeginning old new bs = (n : ℕ) × (n ≤ length bs) × Appends old new (take n bs)

-- the device has failed just where it had before, or the call answers an error
abbrev pub FailsByError : {T E : Type 0} → Bool → Result T E → Bool → Type 0
FailsByError old r new = new ≡ (old || is_err r)

-- From a device whose known bytes were old and are new, the bytes bs were read: all that it had, or the
-- first `limit` of them.
pub record ReadsUpTo (limit : ℕ) (old new : Option (List ℕ)) (bs : List ℕ) : Type 0 where
  pub taken : Consumes old new bs
  pub few : length bs ≤ limit
  pub ends : length bs ≢ limit → IsAtEnd new

-- Bytes were read of it, which with those before them are no more than `limit`.
pub record ReadsFew (limit before : ℕ) (old new : Option (List ℕ)) : Type 0 where
  pub bs : List ℕ
  pub taken : Consumes old new bs
  pub few : before + length bs ≤ limit

-- One more read made text of what was read before, and says whether the device is at its end.
pub record ReadsMore (limit : ℕ) (old new : Option (List ℕ)) (before text : List ℕ) (is_at_end : Bool) : Type 0 where
  pub bs : List ℕ
  pub more : text ≡ before ++ bs
  pub taken : Consumes old new bs
  pub few : length text ≤ limit
  pub some : is_at_end ≡ false → length before < length text
  pub ends : is_at_end ≡ true → IsAtEnd new
