-- Pieces that are written one before the other, from the last.
use Rattle.std.proofs.Common.{◌≡◌, ℕ, List, [], ◌∷◌, ◌++◌, refl, sym, ap, ◌∙◌, append_assoc}
use Rattle.heap_reply.specs.Display.{join_pieces}

-- the pieces before a rest
abbrev pub onto : List (List ℕ) → List ℕ → List ℕ
onto [] rest = rest
onto (x ∷ xs) rest = x ++ onto xs rest

pub onto_joined : (xs : List (List ℕ)) (rest : List ℕ) → onto xs rest ≡ join_pieces xs ++ rest
onto_joined [] rest = refl
onto_joined (x ∷ []) rest = refl
onto_joined (x ∷ y ∷ xs) rest = ap (λ text. x ++ text) (onto_joined (y ∷ xs) rest) ∙ sym (append_assoc x (join_pieces (y ∷ xs)) rest)
