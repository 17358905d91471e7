-- Lists of blocks, and which blocks are in them.
use Rattle.std.proofs.Common.{◌≡◌, zero, suc, inl, inr, nat_lt, List, [], ◌∷◌, refl, arith}
use Rattle.std.specs.Prelude.{◌⊎◌}
use Rattle.std.specs.List.{Contains}
use Rattle.std.proofs.lemmas.Bool.{cond_both}
use Rattle.heap_model.specs.Blocks.{Span, blocks_with, start_of}

pub Contains-first : {X : Type 0} (x : X) (xs : List X) → Contains (x ∷ xs) x
Contains-first x xs = (0, omega arith, refl)

pub Contains-later : {X : Type 0} (x : X) (xs : List X) (y : X) → Contains xs y → Contains (x ∷ xs) y
Contains-later x xs y h = let lt = h.1 in (suc h.0, omega arith, h.2)

pub Contains-cases : {X : Type 0} (x : X) (xs : List X) (y : X) → Contains (x ∷ xs) y → (x ≡ y) ⊎ Contains xs y
Contains-cases x xs y (zero, lt, e) = inl e
Contains-cases x xs y (suc k, lt, e) = inr (k, omega arith, e)

pub Contains-new : (block : Span) (blocks : List Span) → Contains (blocks_with block blocks) block
Contains-new block [] = Contains-first block []
Contains-new block (b ∷ blocks) =
    cond_both (nat_lt (start_of block) (start_of b)) (block ∷ b ∷ blocks) (b ∷ blocks_with block blocks) (λ xs. Contains xs block)
    (λ _. Contains-first block (b ∷ blocks)) (λ _. Contains-later b (blocks_with block blocks) block (Contains-new block blocks))

pub Contains-still : (block : Span) (blocks : List Span) (other : Span) → Contains blocks other → Contains (blocks_with block blocks) other
Contains-still block [] other h = Contains-later block [] other h
Contains-still block (b ∷ blocks) other h =
    cond_both (nat_lt (start_of block) (start_of b)) (block ∷ b ∷ blocks) (b ∷ blocks_with block blocks) (λ xs. Contains xs other)
    (λ _. Contains-later block (b ∷ blocks) other h)
    (λ _. elim (Contains-cases b blocks other h) [
      | inl e ↦ (0, omega arith, e)
      | inr later ↦ Contains-later b (blocks_with block blocks) other (Contains-still block blocks other later)
    ])
