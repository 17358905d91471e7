-- What is kept of a part of a row: how long it is, and the runs of ones at its start, at its end, and the
-- longest one.
use Rattle.std.specs.Prelude.{◌≡◌, ◌<◌, ◌≤◌, ◌+◌, ◌==◌, ℕ, Bool, false, true, max, if◌then◌else◌}
use Rattle.granule_rows.specs.Runs.{AreSet}
use Rattle.granule_rows.specs.declared.summary.Summary.{Summary}

-- The summary of the bits from `first` on.
pub record IsSummary (bits : ℕ → Bool) (first : ℕ) (s : Summary) : Type 0 where
  pub prefix_within : s.prefix ≤ s.length
  pub prefix_set : (k : ℕ) → first ≤ k → k < first + s.prefix → bits k ≡ true
  pub prefix_ends : s.prefix < s.length → bits (first + s.prefix) ≡ false
  pub suffix_within : s.suffix ≤ s.length
  pub suffix_set : (k : ℕ) → first + s.length ≤ k + s.suffix → k < first + s.length → bits k ≡ true
  pub suffix_ends : (k : ℕ) → first ≤ k → k + s.suffix + 1 ≡ first + s.length → bits k ≡ false
  pub longest_at : ℕ
  pub longest_from : first ≤ longest_at
  pub longest_end : longest_at + s.longest ≤ first + s.length
  pub longest_set : (k : ℕ) → longest_at ≤ k → k < longest_at + s.longest → bits k ≡ true
  pub longest_most : (q n : ℕ) → first ≤ q → q + n ≤ first + s.length → AreSet bits q n → n ≤ s.longest

-- The summary of a part and of the part that follows it, as one.
abbrev pub joined_of : Summary → Summary → Summary
joined_of l r = record {
  length = l.length + r.length;
  prefix = if l.prefix == l.length then l.length + r.prefix else l.prefix;
  longest = max (max l.longest r.longest) (l.suffix + r.prefix);
  suffix = if r.suffix == r.length then r.length + l.suffix else r.suffix;
}
