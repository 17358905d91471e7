-- Rows of words: read at an index, written in turn.
use Rattle.std.proofs.Common.{◌≡◌, ℕ, zero, suc, ◌+◌, ◌<◌, List, [], ◌∷◌, length, get_or, set, sym, ◌∙◌, subst, arith, get_or-set_same, get_or-set_other}
use Rattle.std.proofs.Math.Decide.{ℕ_discrete}
use mathlib.Core.Logic.{dite}
use mathlib.Core.Option.{some, some-injective, some-ne-none}
use lib.ListN.{get_elem?}

read_there : (l : List ℕ) (i a : ℕ) → get_elem? l i ≡ some a → get_or l i 0 ≡ a
read_there [] i a e = absurd (some-ne-none a (sym e))
read_there (x ∷ xs) zero a e = some-injective x a e
read_there (x ∷ xs) (suc i) a e = read_there xs i a e

-- One more word is copied.
pub copied-more : (a b : List ℕ) (i x : ℕ) → length a ≡ length b → i < length a → get_elem? b i ≡ some x → ((k : ℕ) → k < i → get_or a k 0 ≡ get_or b k 0) → (k : ℕ) → k < i + 1 → get_or (set a i x) k 0 ≡ get_or b k 0
copied-more a b i x width inside at before k lt = dite (ℕ_discrete k i)
    (λ here. subst (λ (z : ℕ). get_or (set a i x) z 0 ≡ get_or b z 0) (sym here) (get_or-set_same a i x 0 inside ∙ sym (read_there b i x at)))
    (λ other. get_or-set_other a i k x 0 other ∙ before k (omega arith))
