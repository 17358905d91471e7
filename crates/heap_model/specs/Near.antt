-- Where the bits of a row lie at most, so that most granules needn't be looked for in it.
use Rattle.std.specs.Prelude.{◌≡◌, ◌<◌, ◌≤◌, ℕ, Bool, true}

-- No bit is set before the first place, and none at the end or past it.
pub record LieBetween (bits : ℕ → Bool) (first end : ℕ) : Type 0 where
  pub from : (k : ℕ) → bits k ≡ true → first ≤ k
  pub before : (k : ℕ) → bits k ≡ true → k < end
