-- A line, and where its words end (this project's own form).
use Rattle.std.specs.Prelude.{◌≡◌, ◌<◌, ◌≤◌, ◌-◌, ℕ, Bool, List, drop, false, not, true, length, slice_index}
use Rattle.tag_memory.specs.Tags.{is_set}
use Rattle.trace_text.specs.Lines.{is_blank}

-- Of these bits those before the end are 1 where a blank is, and the one at the end is 1.
pub record AreStops (bytes : List ℕ) (stops : ℕ) : Type 0 where
  pub short : length bytes < 64
  pub blanks : (j : ℕ) → j < length bytes → is_set stops j ≡ is_blank (slice_index bytes j)
  pub end : is_set stops (length bytes) ≡ true

-- A place up to which a test fails, and at which it passes unless the list ends there.
pub record Ends (p : ℕ → Bool) (xs : List ℕ) (i : ℕ) : Type 0 where
  pub within : i ≤ length xs
  pub before : (k : ℕ) → k < i → p (slice_index xs k) ≡ false
  pub here : i < length xs → p (slice_index xs i) ≡ true

-- The line begins with a word.
abbrev pub StartsWord : List ℕ → Type 0
StartsWord line = (0 < length line) × (is_blank (slice_index line 0) ≡ false)

-- The first word from a place on begins at `start` and ends before `end`.
pub record IsNextWord (line : List ℕ) (place start end : ℕ) : Type 0 where
  pub after : place ≤ start
  pub begins : Ends (λ byte. not (is_blank byte)) (drop place line) (start - place)
  pub within : start < length line
  pub forward : start ≤ end
  pub stops : Ends is_blank (drop start line) (end - start)
