-- The first word of a line stands from its first byte that is no blank up to the next blank.
use Rattle.std.proofs.Common.{◌≡◌, ℕ, zero, suc, ◌+◌, ◌-◌, ◌<◌, ◌≤◌, inl, inr, Bool, true, false, not, cond, List, [], ◌∷◌, Option, Some, None, length, take, drop, get_or, filter, unwrap_or, refl, sym, ap, subst, ◌∙◌, length-drop, add-zero, arith}
use Rattle.std.specs.List.{slice_split, onto_first, position, position_or_len, starts_with}
use Rattle.std.specs.Prelude.{codes, nat_eq, nat_lt}
use Rattle.std.proofs.Math.ListN.{drop_of_length-le}
use Rattle.std.proofs.lemmas.Bool.{cases_lt, not-true}
use Rattle.std.proofs.lemmas.Bool.Decides.{nat_tests}
use Rattle.std.proofs.lemmas.List.{get_or-drop}
use Rattle.std.proofs.lemmas.List.Quantifiers.{position-Some}
use Rattle.std.proofs.lemmas.List.Sums.{fails_before_first}
use Rattle.trace_text.specs.Lines.{is_blank, is_nonempty, is_passed_over, words_of}
use Rattle.trace_text.specs.Marked.{Ends, StartsWord}

-- ---- where a test passes first

none_passes : (a n : ℕ) → cond (nat_lt a n) (Some a) None ≡ None → n ≤ a
none_passes a n e = grind (arith, nat_tests, e)

pub position-None : (p : ℕ → Bool) (xs : List ℕ) (k : ℕ) → position p xs ≡ None → k < length xs → p (get_or xs k 0) ≡ false
position-None p xs k e lt =
    let le : length xs ≤ position_or_len p xs = none_passes (position_or_len p xs) (length xs) e in
    fails_before_first p xs k 0 (omega arith)

pub ends : (p : ℕ → Bool) (xs : List ℕ) (found : Option ℕ) → found ≡ position p xs → Ends p xs (unwrap_or found (length xs))
ends p xs (Some i) e =
    let (within, here, before) = position-Some p xs i 0 (sym e) in
    record { within = omega arith; before = before; here = λ _. here }
ends p xs None e = record { within = omega arith; before = λ k lt. position-None p xs k (sym e) lt; here = λ lt. absurd (omega arith) }

-- behind so many bytes, if it passes at none of these
pub ends_behind : (p : ℕ → Bool) (bytes : List ℕ) (seen more : ℕ) → seen ≤ length bytes → ((j : ℕ) → j < seen → p (get_or bytes j 0) ≡ false)
    → Ends p (drop seen bytes) more → Ends p bytes (seen + more)
ends_behind p bytes seen more within none found =
    let left : length (drop seen bytes) ≡ length bytes - seen = length-drop seen bytes in
    record {
      within = omega (arith, left, found.within, within);
      before = λ k lt. elim (cases_lt k seen) [
        | inl early ↦ none k early
        | inr late ↦
            let there : seen + (k - seen) ≡ k = omega (arith, late) in
            subst (λ (i : ℕ). p (get_or bytes i 0) ≡ false) there
            (ap p (sym (get_or-drop seen bytes (k - seen) 0)) ∙ found.before (k - seen) (omega (arith, lt, late)))
      ];
      here = λ lt. ap p (sym (get_or-drop seen bytes more 0)) ∙ found.here (omega (arith, left, lt));
    }

-- ---- blanks before the word

pub words_of-blanks : (bs : List ℕ) (i : ℕ) → i ≤ length bs → ((k : ℕ) → k < i → is_blank (get_or bs k 0) ≡ true) → words_of bs ≡ words_of (drop i bs)
words_of-blanks bs zero le blank = refl
words_of-blanks [] (suc i) le blank = absurd (omega arith)
words_of-blanks (b ∷ bs) (suc i) le blank =
    let first : is_blank b ≡ true = blank 0 (omega arith) in
    ap (λ t. filter is_nonempty (cond t ([] ∷ slice_split is_blank bs) (onto_first b (slice_split is_blank bs)))) first
    ∙ words_of-blanks bs i (omega arith) (λ k h. blank (suc k) (omega arith))

-- ---- the word

-- the pieces after one that a blank, or the end of the line, ends
abbrev pieces_after : List ℕ → List (List ℕ)
pieces_after [] = []
pieces_after (b ∷ bs) = slice_split is_blank bs

first_piece : (bs : List ℕ) (i : ℕ) → Ends is_blank bs i → slice_split is_blank bs ≡ take i bs ∷ pieces_after (drop i bs)
first_piece [] zero h = refl
first_piece [] (suc i) h = absurd (omega (arith, h.within))
first_piece (b ∷ bs) zero h =
    ap (λ t. cond t ([] ∷ slice_split is_blank bs) (onto_first b (slice_split is_blank bs))) (h.here (omega arith))
first_piece (b ∷ bs) (suc i) h =
    let rest : Ends is_blank bs i = record { within = omega (arith, h.within); before = λ k lt. h.before (suc k) (omega arith); here = λ lt. h.here (omega arith) } in
    ap (λ t. cond t ([] ∷ slice_split is_blank bs) (onto_first b (slice_split is_blank bs))) (h.before 0 (omega arith))
    ∙ ap (onto_first b) (first_piece bs i rest)

words_after : (bs : List ℕ) (i : ℕ) → Ends is_blank bs i → words_of (drop i bs) ≡ filter is_nonempty (pieces_after (drop i bs))
words_after [] zero h = refl
words_after [] (suc i) h = refl
words_after (b ∷ bs) zero h =
    ap (λ t. filter is_nonempty (cond t ([] ∷ slice_split is_blank bs) (onto_first b (slice_split is_blank bs)))) (h.here (omega arith))
words_after (b ∷ bs) (suc i) h =
    words_after bs i (record { within = omega (arith, h.within); before = λ k lt. h.before (suc k) (omega arith); here = λ lt. h.here (omega arith) })

pub words_of-word : (bs : List ℕ) (i : ℕ) → 0 < i → 0 < length bs → Ends is_blank bs i → words_of bs ≡ take i bs ∷ words_of (drop i bs)
words_of-word bs zero some any h = absurd (omega arith)
words_of-word [] (suc i) some any h = absurd (omega arith)
words_of-word (b ∷ bs) (suc i) some any h =
    ap (filter is_nonempty) (first_piece (b ∷ bs) (suc i) h) ∙ ap (λ rest. take (suc i) (b ∷ bs) ∷ rest) (sym (words_after (b ∷ bs) (suc i) h))

-- ---- the line

not_false : (t : Bool) → not t ≡ false → t ≡ true
not_false true e = refl
not_false false e = absurd cc

some_before_blank : (bs : List ℕ) (i : ℕ) → is_blank (get_or bs 0 0) ≡ false → 0 < length bs → Ends is_blank bs i → 0 < i
some_before_blank bs zero e some h = let t = h.here some in absurd cc
some_before_blank bs (suc i) e some h = omega arith

pub words_of-from : (line : List ℕ) (start : ℕ) → Ends (λ b. not (is_blank b)) line start → words_of (drop start line) ≡ words_of line
words_of-from line start begins =
    sym (words_of-blanks line start begins.within (λ k before. not_false (is_blank (get_or line k 0)) (begins.before k before)))

pub starts_word : (line : List ℕ) (start : ℕ) → Ends (λ b. not (is_blank b)) line start → start < length line → StartsWord (drop start line)
starts_word line start begins lt =
    let same : get_or (drop start line) 0 0 ≡ get_or line start 0 = rw add-zero at (get_or-drop start line 0 0) in
    (omega (arith, lt, length-drop start line), ap is_blank same ∙ not-true (is_blank (get_or line start 0)) (begins.here lt))

pub words_of-front : (line : List ℕ) (end : ℕ) → StartsWord line → Ends is_blank line end → words_of line ≡ take end line ∷ words_of (drop end line)
words_of-front line end (some, starts) stops = words_of-word line end (some_before_blank line end starts some stops) some stops

pub passed_over-front : (line : List ℕ) → StartsWord line → is_passed_over (words_of line) ≡ starts_with nat_eq line (codes "#")
passed_over-front line (some, starts) =
    let found = position is_blank line in
    let end = unwrap_or found (length line) in
    let stops = ends is_blank line found refl in
    ap is_passed_over (words_of-front line end (some, starts) stops) ∙ same_start line end (words_of (drop end line)) some (some_before_blank line end starts some stops) where
      same_start : (line : List ℕ) (end : ℕ) (words : List (List ℕ)) → 0 < length line → 0 < end → is_passed_over (take end line ∷ words) ≡ starts_with nat_eq line (codes "#")
      same_start [] end words some any = absurd (omega arith)
      same_start (b ∷ bs) zero words some any = absurd (omega arith)
      same_start (b ∷ bs) (suc end) words some any = refl

pub words_of-none : (line : List ℕ) (start : ℕ) → Ends (λ b. not (is_blank b)) line start → start ≡ length line → words_of line ≡ []
words_of-none line start none all =
    words_of-blanks line start none.within (λ k before. not_false (is_blank (get_or line k 0)) (none.before k before))
    ∙ ap words_of (drop_of_length-le line (omega (arith, all)))
