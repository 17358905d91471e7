-- A page is made dirty by two writes.
use Rattle.std.proofs.lemmas.Bool.{cases_lt}
use Rattle.std.proofs.lemmas.List.{get_or-replicate, get_or_past, length-replicate}
use Rattle.std.proofs.Common.{◌≡◌, ◌∙◌, ◌*◌, ◌/◌, inl, inr, length, length-set, replicate, ℕ, zero, suc, Bool, true, false, List, [], ◌∷◌, set, Some, refl, ap, arith}
use Rattle.std.specs.Prelude.{slice_get}
use Rattle.tag_memory.specs.Cells.{Granule, is_dirty_at, marks_after}

pub two_puts : (xs : List Granule) (i : ℕ) (a b : Granule) → slice_get xs i ≡ Some b → set (set xs i a) i b ≡ xs
two_puts [] i a b is = refl
two_puts (x ∷ xs) zero a b is = let same : b ≡ x = cc in (λ j. same j ∷ xs)
two_puts (x ∷ xs) (suc i) a b is = ap (λ (l : List Granule). x ∷ l) (two_puts xs i a b is)

set_twice : (xs : List Bool) (q : ℕ) (v : Bool) → set (set xs q v) q v ≡ set xs q v
set_twice [] q v = refl
set_twice (x ∷ xs) zero v = refl
set_twice (x ∷ xs) (suc q) v = ap (λ (l : List Bool). x ∷ l) (set_twice xs q v)

pub two_marks : (xs : List Bool) (page : ℕ) (tag : Bool) → marks_after (marks_after xs (256 * page) true) (256 * page) tag ≡ set xs page true
two_marks xs page true =
    let at : 256 * page / 256 ≡ page = omega arith in
    set_twice xs (256 * page / 256) true ∙ ap (λ (q : ℕ). set xs q true) at
two_marks xs page false =
    let at : 256 * page / 256 ≡ page = omega arith in
    ap (λ (q : ℕ). set xs q true) at

-- A clean page stays so, whichever it is.
pub clean_at : (pages k : ℕ) → is_dirty_at (replicate pages false) k ≡ false
clean_at pages k =
    elim (cases_lt k pages) [
      | inl lt ↦ get_or-replicate pages k false false lt
      | inr past ↦ get_or_past (replicate pages false) k false (let l : length (replicate pages false) ≡ pages = length-replicate pages false in omega (arith, past, l))
    ]

-- There are as many marks once a granule is written.
pub marks_length : (marks : List Bool) (i : ℕ) (tag : Bool) → length (marks_after marks i tag) ≡ length marks
marks_length marks i true = length-set marks (i / 256) true
marks_length marks i false = refl
