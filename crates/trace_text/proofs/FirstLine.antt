-- The first line of a text ends at the first line feed.
use Rattle.std.proofs.Common.{◌≡◌, ℕ, zero, suc, ◌+◌, ◌<◌, min, inl, inr, true, false, eqb, List, [], ◌∷◌, length, take, drop, get_or, refl, ap, arith}
use Rattle.std.specs.List.{onto_first}
use Rattle.std.proofs.Math.ListN.{drop_of_length-le}
use Rattle.std.proofs.lemmas.Bool.{cases_lt}
use Rattle.std.proofs.lemmas.List.{take_all}
use Rattle.trace_text.specs.Lines.{lines_of}
use Rattle.trace_text.specs.Marked.{Ends}

-- a line that byte 10 ends
pub lines_at_feed : (bs : List ℕ) (i : ℕ) → i < length bs → eqb (get_or bs i 0) 10 ≡ true → ((k : ℕ) → k < i → eqb (get_or bs k 0) 10 ≡ false)
    → lines_of bs ≡ take i bs ∷ lines_of (drop (suc i) bs)
lines_at_feed [] i lt here before = absurd (omega arith)
lines_at_feed (b ∷ bs) zero lt here before = rw here refl
lines_at_feed (b ∷ bs) (suc i) lt here before =
    let lt' : i < length bs = omega arith in
    rw (before 0 (omega arith)) (ap (onto_first b) (lines_at_feed bs i lt' here (λ k h. before (suc k) (omega arith))))

-- the last line, which lacks it
pub lines_without_feed : (bs : List ℕ) → 0 < length bs → ((k : ℕ) → k < length bs → eqb (get_or bs k 0) 10 ≡ false) → lines_of bs ≡ bs ∷ []
lines_without_feed [] some none = absurd (omega arith)
lines_without_feed (b ∷ []) some none = rw (none 0 (omega arith)) refl
lines_without_feed (b ∷ c ∷ bs) some none =
    rw (none 0 (omega arith)) (ap (onto_first b) (lines_without_feed (c ∷ bs) (omega arith) (λ k h. none (suc k) (omega arith))))

-- the first line, and the text from a place behind it on
pub lines_to : (text : List ℕ) (count after : ℕ) → 0 < length text → Ends (λ byte. eqb byte 10) text count → after ≡ min (count + 1) (length text)
    → lines_of text ≡ take count text ∷ lines_of (drop after text)
lines_to text count after some found past =
    elim (cases_lt count (length text)) [
      | inl lt ↦
          let next : after ≡ suc count = omega (arith, past, lt) in
          rw next (lines_at_feed text count lt (found.here lt) found.before)
      | inr all ↦
          let end : count ≡ length text = omega (arith, all, found.within) in
          let last : after ≡ length text = omega (arith, past, end) in
          let nothing : drop (length text) text ≡ [] = drop_of_length-le text (omega arith) in
          rw (last, end, take_all (length text) text (omega arith), nothing) (lines_without_feed text some (λ k lt. found.before k (omega (arith, lt, end))))
    ]
