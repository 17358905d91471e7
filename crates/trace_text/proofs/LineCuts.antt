-- A line is cut at a word.
use Rattle.std.proofs.Common.{◌≡◌, ℕ, zero, suc, ◌+◌, ◌-◌, ◌<◌, ◌≤◌, Bool, true, false, not, cond, List, [], ◌∷◌, ◌++◌, Option, Some, None, length, take, drop, get_or, filter, bytes_eq, refl, sym, ap, ap₂, subst, ◌∙◌, length-drop, drop-cons, append_assoc, append-nil, arith}
use Rattle.std.specs.List.{slice_split, onto_first}
use Rattle.std.specs.Option.{option_map}
use Rattle.std.proofs.lemmas.List.{drop-drop, drop-take, drop_all, get_or-drop, get_or-take, length-take-le, take-take}
use Rattle.std.proofs.Math.Decide.{dec_lt}
use Rattle.std.proofs.lemmas.List.Elements.{filter-append}
use Rattle.std.proofs.lemmas.List.Splits.{length-slice_split}
use Rattle.trace_text.specs.Lines.{is_blank, is_nonempty, split_at_first, words_of}
use Rattle.trace_text.specs.Marked.{Ends, IsNextWord, StartsWord}
use Rattle.trace_text.proofs.FirstWord.{starts_word, words_of-blanks, words_of-from, words_of-front, words_of-none}

-- ---- a blank parts the words

onto_first-append : (b : ℕ) (parts others : List (List ℕ)) → 0 < length parts → onto_first b (parts ++ others) ≡ onto_first b parts ++ others
onto_first-append b [] others some = absurd (omega arith)
onto_first-append b (part ∷ parts) others some = refl

split_at_blank : (bs : List ℕ) (i : ℕ) → i < length bs → is_blank (get_or bs i 0) ≡ true
    → slice_split is_blank bs ≡ slice_split is_blank (take i bs) ++ slice_split is_blank (drop (suc i) bs)
split_at_blank [] i lt blank = absurd (omega arith)
split_at_blank (b ∷ bs) zero lt blank = rw blank refl
split_at_blank (b ∷ bs) (suc i) lt blank = go (is_blank b) (slice_split is_blank (take i bs)) (slice_split is_blank (drop (suc i) bs))
    (split_at_blank bs i (omega arith) blank) (omega (arith, length-slice_split is_blank (take i bs))) where
      go : (t : Bool) (before after : List (List ℕ)) → slice_split is_blank bs ≡ before ++ after → 0 < length before
          → cond t ([] ∷ slice_split is_blank bs) (onto_first b (slice_split is_blank bs)) ≡ cond t ([] ∷ before) (onto_first b before) ++ after
      go true before after rest some = ap (λ parts. [] ∷ parts) rest
      go false before after rest some = ap (onto_first b) rest ∙ onto_first-append b before after some

words_of-parted : (line : List ℕ) (place : ℕ) → place < length line → is_blank (get_or line place 0) ≡ true → words_of line ≡ words_of (take place line) ++ words_of (drop (suc place) line)
words_of-parted line place lt blank =
    ap (filter is_nonempty) (split_at_blank line place lt blank) ∙ filter-append is_nonempty (slice_split is_blank (take place line)) (slice_split is_blank (drop (suc place) line))

-- ---- the next word

-- no word follows
pub no_next_word : (line : List ℕ) (place blanks : ℕ) → Ends (λ b. not (is_blank b)) (drop place line) blanks → blanks ≡ length line - place → words_of (drop place line) ≡ []
no_next_word line place blanks ends all = words_of-none (drop place line) blanks ends (omega (arith, length-drop place line))

pub next_is : (line : List ℕ) (place blanks count : ℕ) → place ≤ length line → Ends (λ b. not (is_blank b)) (drop place line) blanks → ¬ (blanks ≡ length line - place)
    → Ends is_blank (drop (place + blanks) line) count → IsNextWord line place (place + blanks) (place + blanks + count)
next_is line place blanks count room begins some stops =
    let skipped : place + blanks - place ≡ blanks = omega arith in
    let word : place + blanks + count - (place + blanks) ≡ count = omega arith in
    record {
      after = omega arith;
      begins = rw skipped begins;
      within = omega (arith, begins.within, some, length-drop place line);
      forward = omega arith;
      stops = rw word stops;
    }

-- the next word stands before the words after it
next_words : (line : List ℕ) (place start end : ℕ) → IsNextWord line place start end → words_of (drop place line) ≡ take (end - start) (drop start line) ∷ words_of (drop end line)
next_words line place start end next =
    let skipped : place + (start - place) ≡ start = omega (arith, next.after) in
    let from : drop (start - place) (drop place line) ≡ drop start line = drop-drop (start - place) place line ∙ ap (λ i. drop i line) skipped in
    let some : start - place < length (drop place line) = omega (arith, next.after, next.within, length-drop place line) in
    let word : StartsWord (drop start line) = subst StartsWord from (starts_word (drop place line) (start - place) next.begins some) in
    let rest : drop (end - start) (drop start line) ≡ drop end line = drop-drop (end - start) start line ∙ ap (λ i. drop i line) (omega (arith, next.forward)) in
    sym (words_of-from (drop place line) (start - place) next.begins) ∙ ap words_of from
    ∙ words_of-front (drop start line) (end - start) word next.stops ∙ ap (λ bytes. take (end - start) (drop start line) ∷ words_of bytes) rest

pub end_within : (line : List ℕ) (place start end : ℕ) → IsNextWord line place start end → end ≤ length line
end_within line place start end next = omega (arith, next.stops.within, next.within, next.forward, length-drop start line)

-- a byte between the place and the word
blank_before : (line : List ℕ) (place start end k : ℕ) → IsNextWord line place start end → place ≤ k → k < start → is_blank (get_or line k 0) ≡ true
blank_before line place start end k next from to =
    let there : place + (k - place) ≡ k = omega (arith, from) in
    let same : get_or (drop place line) (k - place) 0 ≡ get_or line k 0 = get_or-drop place line (k - place) 0 ∙ ap (λ i. get_or line i 0) there in
    flip (is_blank (get_or line k 0)) (ap (λ b. not (is_blank b)) (sym same) ∙ next.begins.before (k - place) (omega (arith, from, to))) where
      flip : (t : Bool) → not t ≡ false → t ≡ true
      flip true e = refl
      flip false e = absurd cc

-- the byte after the word
blank_after : (line : List ℕ) (place start end : ℕ) → IsNextWord line place start end → end < length line → is_blank (get_or line end 0) ≡ true
blank_after line place start end next lt =
    let there : start + (end - start) ≡ end = omega (arith, next.forward) in
    let same : get_or (drop start line) (end - start) 0 ≡ get_or line end 0 = get_or-drop start line (end - start) 0 ∙ ap (λ i. get_or line i 0) there in
    ap is_blank (sym same) ∙ next.stops.here (omega (arith, next.forward, lt, length-drop start line))

-- blanks at the end of a line
all_blank : (line : List ℕ) → ((k : ℕ) → k < length line → is_blank (get_or line k 0) ≡ true) → words_of line ≡ []
all_blank line blank = words_of-blanks line (length line) (omega arith) blank ∙ ap words_of (drop_all (length line) line (omega arith))

-- the words before the next one, up to it
pub words_before : (line : List ℕ) (place start end : ℕ) → IsNextWord line place start end → words_of (take start line) ≡ words_of (take place line)
words_before line place start end next = go (dec_lt place start) where
  size : length (take start line) ≡ start
  size = length-take-le start line (omega (arith, next.within))

  go : Dec (place < start) → words_of (take start line) ≡ words_of (take place line)
  go (yes lt) =
      let here : is_blank (get_or (take start line) place 0) ≡ true = ap is_blank (get_or-take start line place 0 lt) ∙ blank_before line place start end place next (omega arith) lt in
      let none : words_of (drop (suc place) (take start line)) ≡ [] = all_blank (drop (suc place) (take start line)) (λ k within.
      let to : suc place + k < start = omega (arith, within, length-drop (suc place) (take start line), size) in
      ap is_blank (get_or-drop (suc place) (take start line) k 0 ∙ get_or-take start line (suc place + k) 0 to) ∙ blank_before line place start end (suc place + k) next (omega arith) to) in
      words_of-parted (take start line) place (omega (arith, size, lt)) here
      ∙ ap₂ (λ bytes words. words_of bytes ++ words) (take-take place start line (omega (arith, lt))) none
      ∙ append-nil (words_of (take place line))
  go (no ge) = ap (λ i. words_of (take i line)) (omega (arith, ge, next.after))

-- a place at which no word is cut
abbrev pub PartsWords : List ℕ → ℕ → Type 0
PartsWords line place = 0 < place → place < length line → is_blank (get_or line place 0) ≡ true

pub parts_words-after : (line : List ℕ) (place start end : ℕ) → IsNextWord line place start end → PartsWords line end
parts_words-after line place start end next = λ _ lt. blank_after line place start end next lt

words_of-parts : (line : List ℕ) (place : ℕ) → PartsWords line place → place < length line → words_of line ≡ words_of (take place line) ++ words_of (drop place line)
words_of-parts line zero parts lt = refl
words_of-parts line (suc i) parts lt =
    let blank : is_blank (get_or line (suc i) 0) ≡ true = parts (omega arith) lt in
    let skip : words_of (drop (suc i) line) ≡ words_of (drop (suc (suc i)) line) = ap words_of (drop-cons line (suc i) 0 lt) ∙ rw blank refl in
    words_of-parted line (suc i) lt blank ∙ ap (λ words. words_of (take (suc i) line) ++ words) (sym skip)

word_is_some : (line : List ℕ) (place start end : ℕ) → IsNextWord line place start end → start < end
word_is_some line place start end next = go (dec_lt start end) where
  go : Dec (start < end) → start < end
  go (yes lt) = lt
  go (no ge) =
      let same : end ≡ start = omega (arith, ge, next.forward) in
      let blank = blank_after line place start end next (omega (arith, same, next.within)) in
      let there : place + (start - place) ≡ start = omega (arith, next.after) in
      let word = next.begins.here (omega (arith, next.after, next.within, length-drop place line)) in
      let at_start : get_or (drop place line) (start - place) 0 ≡ get_or line start 0 = get_or-drop place line (start - place) 0 ∙ ap (λ i. get_or line i 0) there in
      let first : not (is_blank (get_or line start 0)) ≡ true = ap (λ b. not (is_blank b)) (sym at_start) ∙ word in
      let second : is_blank (get_or line start 0) ≡ true = ap (λ i. is_blank (get_or line i 0)) (sym same) ∙ blank in
      let clash : not true ≡ true = ap not (sym second) ∙ first in
      absurd cc

-- where a test passes first, in the front of a line
ends_front : (p : ℕ → Bool) (line : List ℕ) (place i end : ℕ) → Ends p (drop place line) i → place + i ≤ end → end ≤ length line → Ends p (drop place (take end line)) i
ends_front p line place i end ends to room =
    let size : length (drop place (take end line)) ≡ end - place = length-drop place (take end line) ∙ ap (λ n. n - place) (length-take-le end line room) in
    let same : (k : ℕ) → place + k < end → get_or (drop place (take end line)) k 0 ≡ get_or (drop place line) k 0 =
    λ k lt. get_or-drop place (take end line) k 0 ∙ get_or-take end line (place + k) 0 lt ∙ sym (get_or-drop place line k 0) in
    record {
      within = omega (arith, size, to);
      before = λ k lt. ap p (same k (omega (arith, lt, to))) ∙ ends.before k lt;
      here = λ lt. ap p (same i (omega (arith, lt, size))) ∙ ends.here (omega (arith, lt, size, room, length-drop place line));
    }

-- the words up to the end of the next one
words_up_to : (line : List ℕ) (place start end : ℕ) → IsNextWord line place start end → PartsWords line place
    → words_of (take end line) ≡ words_of (take place line) ++ (take (end - start) (drop start line) ∷ [])
words_up_to line place start end next parts =
    let front = take end line in
    let room = end_within line place start end next in
    let size : length front ≡ end = length-take-le end line room in
    let some = word_is_some line place start end next in
    let here : (k : ℕ) → k < end → get_or front k 0 ≡ get_or line k 0 = λ k lt. get_or-take end line k 0 lt in
    let parts_front : PartsWords front place = λ positive lt. ap is_blank (here place (omega (arith, size, lt))) ∙ parts positive (omega (arith, size, lt, room)) in
    let next_front : IsNextWord front place start end = record {
      after = next.after;
      begins = ends_front (λ b. not (is_blank b)) line place (start - place) end next.begins (omega (arith, next.after, some)) room;
      within = omega (arith, size, some);
      forward = next.forward;
      stops = ends_front is_blank line start (end - start) end next.stops (omega (arith, some)) room;
    } in
    let whole : start + (end - start) ≡ end = omega (arith, some) in
    let word : take (end - start) (drop start front) ≡ take (end - start) (drop start line) =
    ap (λ i. take (end - start) (drop start (take i line))) (sym whole) ∙ ap (take (end - start)) (drop-take start (end - start) line)
    ∙ take-take (end - start) (end - start) (drop start line) (omega arith) in
    let none : words_of (drop end front) ≡ [] = ap words_of (drop_all end front (omega (arith, size))) in
    words_of-parts front place parts_front (omega (arith, size, next.after, some))
    ∙ ap₂ (λ bytes words. words_of bytes ++ words) (take-take place end line (omega (arith, next.after, some)))
    (next_words front place start end next_front ∙ ap₂ (λ first others. first ∷ others) word none)

-- ---- the cut

abbrev onto_front : List (List ℕ) → Option (List (List ℕ) × List (List ℕ)) → Option (List (List ℕ) × List (List ℕ))
onto_front front found = option_map (λ parts. (front ++ parts.0, parts.1)) found

-- what is left to be cut, after the words before this place
abbrev pub cut_from : List ℕ → List ℕ → ℕ → Option (List (List ℕ) × List (List ℕ))
cut_from word line place = onto_front (words_of (take place line)) (split_at_first word (words_of (drop place line)))

onto_nothing : (found : Option (List (List ℕ) × List (List ℕ))) → onto_front [] found ≡ found
onto_nothing None = refl
onto_nothing (Some parts) = refl

pub cut_from-start : (word line : List ℕ) → cut_from word line 0 ≡ split_at_first word (words_of line)
cut_from-start word line = onto_nothing (split_at_first word (words_of line))

regroup : (front : List (List ℕ)) (first : List ℕ) (found : Option (List (List ℕ) × List (List ℕ)))
    → onto_front (front ++ (first ∷ [])) found ≡ onto_front front (option_map (λ parts. (first ∷ parts.0, parts.1)) found)
regroup front first None = refl
regroup front first (Some parts) = ap (λ words. Some (words, parts.1)) (append_assoc front (first ∷ []) parts.0)

pub cut_goes_on : (word line : List ℕ) (place start end : ℕ) → IsNextWord line place start end → PartsWords line place
    → bytes_eq (take (end - start) (drop start line)) word ≡ false → cut_from word line end ≡ cut_from word line place
cut_goes_on word line place start end next parts other =
    let first = take (end - start) (drop start line) in
    let rest = split_at_first word (words_of (drop end line)) in
    let passed : split_at_first word (first ∷ words_of (drop end line)) ≡ option_map (λ parts. (first ∷ parts.0, parts.1)) rest = rw other refl in
    ap (λ words. onto_front words rest) (words_up_to line place start end next parts) ∙ regroup (words_of (take place line)) first rest
    ∙ ap (onto_front (words_of (take place line))) (sym (ap (split_at_first word) (next_words line place start end next) ∙ passed))

pub cut_is : (word line : List ℕ) (place start end : ℕ) → IsNextWord line place start end → bytes_eq (take (end - start) (drop start line)) word ≡ true
    → cut_from word line place ≡ Some (words_of (take start line), words_of (drop end line))
cut_is word line place start end next this =
    let first = take (end - start) (drop start line) in
    let rest = words_of (drop end line) in
    let found : split_at_first word (first ∷ rest) ≡ Some ([], rest) = rw this refl in
    ap (onto_front (words_of (take place line))) (ap (split_at_first word) (next_words line place start end next) ∙ found)
    ∙ ap (λ words. Some (words, words_of (drop end line))) (append-nil (words_of (take place line)) ∙ sym (words_before line place start end next))

pub cut_lacks : (word line : List ℕ) (place : ℕ) → words_of (drop place line) ≡ [] → cut_from word line place ≡ None
cut_lacks word line place none = ap (λ words. onto_front (words_of (take place line)) (split_at_first word words)) none
