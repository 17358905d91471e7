-- What the crates above need to write rows that lie in vectors.
use Rattle.std.proofs.Common.{◌≡◌, ◌∙◌, ℕ, List, length, arith}
use Rattle.std.proofs.lemmas.List.{take-append-le, take_all}
use Rattle.std.specs.Prelude.{◌++◌, drop, take}

-- What a slice of a whole vector was made.
pub whole_written : {X : Type 0} (n : ℕ) (old new : List X) → length new ≡ n → take n (new ++ drop (length new) old) ≡ new
whole_written n old new same =
    take-append-le n new (drop (length new) old) (omega arith) ∙ take_all n new (omega arith)
