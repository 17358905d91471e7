-- Congruent integers, and integers of a window.
use Rattle.std.specs.Prelude.{◌≡◌, ℕ, ℤ, pos, ◌+ℤ◌, ◌*◌, ◌≤ℤ◌, ◌<ℤ◌}

-- x and y differ by a multiple of m.
pub record IsCongruent (m : ℕ) (x y : ℤ) : Type 0 where
  pub i : ℕ
  pub j : ℕ
  pub same : x +ℤ pos (i * m) ≡ y +ℤ pos (j * m)

-- n is one of the `size` integers from `low` on.
pub record IsWithin (low : ℤ) (size : ℕ) (n : ℤ) : Type 0 where
  pub from : low ≤ℤ n
  pub before : n <ℤ (low +ℤ pos size)
