-- The first lines of a text, put one behind another.
use Rattle.std.proofs.Common.{◌≡◌, ◌∙◌, ◌+◌, ◌++◌, ℕ, suc, zero, List, [], ◌∷◌, refl, sym, ap, arith}
use Rattle.std.proofs.lemmas.List.{append-nil, append_assoc}
use Rattle.revoker_runs.specs.Answer.{first_lines, line_text}

first-none : (n : ℕ) → first_lines n [] ≡ []
first-none zero = refl
first-none (suc n) = refl

-- There is no line left.
pub head-end : (head whole : List ℕ) (n : ℕ) (left : List (List ℕ)) → left ≡ [] → head ++ first_lines n left ≡ whole → head ≡ whole
head-end head whole n left is so = sym (ap (λ (xs : List ℕ). head ++ xs) (ap (λ (xs : List (List ℕ)). first_lines n xs) is ∙ first-none n) ∙ append-nil head) ∙ so

-- There are enough.
pub head-done : (head whole : List ℕ) (n : ℕ) (left : List (List ℕ)) → n ≡ 0 → head ++ first_lines n left ≡ whole → head ≡ whole
head-done head whole n left is so = sym (ap (λ (xs : List ℕ). head ++ xs) (ap (λ (k : ℕ). first_lines k left) is) ∙ append-nil head) ∙ so

pub head-next : (head whole longer : List ℕ) (n m : ℕ) (left : List (List ℕ)) (line : List ℕ) (after : List (List ℕ)) → left ≡ line ∷ after → n ≡ m + 1 → longer ≡ head ++ line_text line
    → head ++ first_lines n left ≡ whole → longer ++ first_lines m after ≡ whole
head-next head whole longer n m left line after cut count grown so =
    let is : n ≡ suc m = omega (arith, count) in
    ap (λ (xs : List ℕ). xs ++ first_lines m after) grown ∙ append_assoc head (line_text line) (first_lines m after)
    ∙ ap (λ (xs : List ℕ). head ++ xs) (sym (ap (λ (k : ℕ). first_lines k left) is ∙ ap (λ (xs : List (List ℕ)). first_lines (suc m) xs) cut)) ∙ so
