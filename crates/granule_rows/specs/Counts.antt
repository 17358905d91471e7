-- The bits of rows, counted from the first.
use Rattle.std.specs.Prelude.{◌&&◌, ℕ, Bool, List, count_by, map}
use Rattle.std.specs.List.{range_with_len}
use Rattle.tag_memory.specs.Tags.{is_set_for}

-- How many numbers below n pass the test.
unfoldable pub count_below : (ℕ → Bool) → ℕ → ℕ
count_below test n = count_by (λ passes. passes) (map test (range_with_len 0 n))

-- Bit k is 1 in both rows.
abbrev pub is_both : List ℕ → List ℕ → ℕ → Bool
is_both row other k = is_set_for row k && is_set_for other k
