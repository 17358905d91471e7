-- A list in which the elements at some indices are changed, and how many there pass a test.
use Rattle.std.specs.Prelude.{ℕ, ◌+◌, ◌&&◌, suc, Bool, List, [], ◌∷◌, if◌then◌else◌}

-- The list with f of each element whose index passes the test.
abbrev pub changed_where : {X : Type 0} → (ℕ → Bool) → (X → X) → List X → List X
changed_where test f [] = []
changed_where test f (x ∷ xs) = (if test 0 then f x else x) ∷ changed_where (λ k. test (suc k)) f xs

-- How many elements pass a test, of those whose index passes another.
abbrev pub count_where : {X : Type 0} → (ℕ → Bool) → (X → Bool) → List X → ℕ
count_where test p [] = 0
count_where test p (x ∷ xs) = (if test 0 && p x then 1 else 0) + count_where (λ k. test (suc k)) p xs
