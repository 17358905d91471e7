-- Words are cut at the first that is this one.
use Rattle.std.proofs.Common.{◌≡◌, ◌≢◌, ℕ, Bool, true, false, cond, List, [], ◌∷◌, ◌++◌, Option, Some, None, bytes_eq, refl, ap, ap₂, subst, ◌∙◌}
use Rattle.std.specs.List.{AllByRecursion}
use Rattle.std.specs.Option.{option_map}
use Rattle.std.proofs.lemmas.Slice.Eq.{bytes_eq-Decides}
use Rattle.trace_text.specs.Lines.{split_at_first}

abbrev AreOther : List ℕ → List (List ℕ) → Type 0
AreOther word words = AllByRecursion (λ other. other ≢ word) words

abbrev CutRead : List ℕ → List (List ℕ) → List (List ℕ) → List (List ℕ) → Type 0
CutRead word words before after = (words ≡ before ++ word ∷ after) × AreOther word before

-- what is cut where the first word is this one, or another
abbrev next_cut : Bool → List ℕ → List (List ℕ) → Option (List (List ℕ) × List (List ℕ)) → Option (List (List ℕ) × List (List ℕ))
next_cut t first others found = cond t (Some ([], others)) (option_map (λ parts. (first ∷ parts.0, parts.1)) found)

same_word : (word : List ℕ) → bytes_eq word word ≡ true
same_word word = (bytes_eq-Decides word word).1 refl

is_other : (first word : List ℕ) → bytes_eq first word ≡ false → first ≢ word
is_other first word e same = let is : bytes_eq first word ≡ true = (bytes_eq-Decides first word).1 same in absurd cc

not_same : (first word : List ℕ) → first ≢ word → bytes_eq first word ≡ false
not_same first word other = go (bytes_eq first word) refl where
  go : (t : Bool) → bytes_eq first word ≡ t → t ≡ false
  go true e = absurd (other ((bytes_eq-Decides first word).0 e))
  go false e = refl

same_parts : (p q : List (List ℕ) × List (List ℕ)) → Some p ≡ Some q → p ≡ q
same_parts p q e = cc

pub cut_read : (word : List ℕ) (words before after : List (List ℕ)) → split_at_first word words ≡ Some (before, after) → CutRead word words before after
cut_read word [] before after e = absurd cc
cut_read word (first ∷ others) before after e = go (λ front back. cut_read word others front back) (bytes_eq first word) (split_at_first word others) refl refl e where
  go : ((front back : List (List ℕ)) → split_at_first word others ≡ Some (front, back) → CutRead word others front back)
      → (t : Bool) (found : Option (List (List ℕ) × List (List ℕ))) → bytes_eq first word ≡ t → split_at_first word others ≡ found
      → next_cut t first others found ≡ Some (before, after) → CutRead word (first ∷ others) before after
  go read true found is h e =
      let same = same_parts ([], others) (before, after) e in
      let none : [] ≡ before = ap (λ parts. parts.0) same in
      let rest : others ≡ after = ap (λ parts. parts.1) same in
      subst (λ (ws : List (List ℕ)). CutRead word (first ∷ others) ws after) none (ap₂ (λ w ws. w ∷ ws) ((bytes_eq-Decides first word).0 is) rest, tt)
  go read false None is h e = absurd cc
  go read false (Some (others', after')) is h e =
      let same = same_parts (first ∷ others', after') (before, after) e in
      let front : first ∷ others' ≡ before = ap (λ both. both.0) same in
      let back : after' ≡ after = ap (λ both. both.1) same in
      let (words_are, other) = read others' after' h in
      subst (λ (ws : List (List ℕ)). CutRead word (first ∷ others) ws after) front
      (ap (λ ws. first ∷ ws) (words_are ∙ ap (λ ws. others' ++ word ∷ ws) back), (is_other first word is, other))

pub cut_of : (word : List ℕ) (words before after : List (List ℕ)) → CutRead word words before after → split_at_first word words ≡ Some (before, after)
cut_of word words before after (words_are, other) = ap (split_at_first word) words_are ∙ go before other where
  go : (before : List (List ℕ)) → AreOther word before → split_at_first word (before ++ word ∷ after) ≡ Some (before, after)
  go [] other = rw (same_word word) refl
  go (first ∷ others) (other, rest) = rw (not_same first word other) (ap (option_map (λ parts. (first ∷ parts.0, parts.1))) (go others rest))

pub lack_read : (word : List ℕ) (words : List (List ℕ)) → split_at_first word words ≡ None → AreOther word words
lack_read word [] e = tt
lack_read word (first ∷ others) e = go (lack_read word others) (bytes_eq first word) (split_at_first word others) refl refl e where
  go : (split_at_first word others ≡ None → AreOther word others) → (t : Bool) (found : Option (List (List ℕ) × List (List ℕ))) → bytes_eq first word ≡ t → split_at_first word others ≡ found
      → next_cut t first others found ≡ None → AreOther word (first ∷ others)
  go read true found is h e = absurd cc
  go read false None is h e = (is_other first word is, read h)
  go read false (Some parts) is h e = absurd cc

pub lack_of : (word : List ℕ) (words : List (List ℕ)) → AreOther word words → split_at_first word words ≡ None
lack_of word [] other = refl
lack_of word (first ∷ others) (other, rest) = rw (not_same first word other) (ap (option_map (λ parts. (first ∷ parts.0, parts.1))) (lack_of word others rest))
