-- The last line of a text, found from the text's end.
use Rattle.std.proofs.Common.{◌≡◌, ◌∙◌, sym, ℕ, zero, suc, ◌+◌, ◌-◌, ◌<◌, ◌≤◌, Bool, true, false, inl, inr, eqb, List, [], ◌∷◌, length, take, min, drop, get_or, refl, ap, arith}
use Rattle.std.proofs.lemmas.Bool.{cases_lt}
use Rattle.std.proofs.lemmas.List.{get_or-drop, length-drop, take_all}
use Rattle.std.specs.List.{onto_first}
use Rattle.trace_text.specs.Lines.{lines_of}
use Rattle.log_notes.specs.Part.{last_of}

-- Two lines or more, of which the last is the last of these.
record EndAs (lines last : List (List ℕ)) : Type 0 where
  one : List ℕ
  next : List ℕ
  more : List (List ℕ)
  lines_are : lines ≡ one ∷ next ∷ more
  last_is : last_of (next ∷ more) ≡ last_of last

ends_behind : (byte : ℕ) (lines last : List (List ℕ)) → EndAs lines last → EndAs (onto_first byte lines) last
ends_behind byte lines last ends = record { one = byte ∷ ends.one; next = ends.next; more = ends.more; lines_are = ap (onto_first byte) ends.lines_are; last_is = ends.last_is }

-- One byte before them changes nothing of that.
ends_through : (byte : ℕ) (bytes : List ℕ) (is_feed : Bool) (first : List ℕ) (others : List (List ℕ)) → eqb byte 10 ≡ is_feed → EndAs (lines_of bytes) (first ∷ others)
    → EndAs (lines_of (byte ∷ bytes)) (first ∷ others)
ends_through byte bytes true first others e later = rw (e, later.lines_are) (record { one = []; next = later.one; more = later.next ∷ later.more; lines_are = refl; last_is = later.last_is })
ends_through byte bytes false first others e later = rw e (ends_behind byte (lines_of bytes) (first ∷ others) later)

-- Behind a feed the lines of the rest are the last ones.
ends_as : (text : List ℕ) (at : ℕ) (first : List ℕ) (others : List (List ℕ)) → at < length text → eqb (get_or text at 0) 10 ≡ true → lines_of (drop (suc at) text) ≡ first ∷ others
    → EndAs (lines_of text) (first ∷ others)
ends_as [] at first others within feed rest = absurd (omega arith)
ends_as (byte ∷ bytes) zero first others within feed rest = rw (feed, rest) (record { one = []; next = first; more = others; lines_are = refl; last_is = refl })
ends_as (byte ∷ bytes) (suc at) first others within feed rest = ends_through byte bytes (eqb byte 10) first others refl (ends_as bytes at first others (omega arith) feed rest)

-- A text of one line, with a feed behind it or without.
one_line : (text : List ℕ) (count : ℕ) → ((j : ℕ) → j < count → eqb (get_or text j 0) 10 ≡ false) → count < length text → (count + 1 ≡ length text) → eqb (get_or text count 0) 10 ≡ true
    → lines_of text ≡ take count text ∷ []
one_line [] count none within ends feed = absurd (omega arith)
one_line (byte ∷ []) zero none within ends feed = rw feed refl
one_line (byte ∷ next ∷ bytes) zero none within ends feed = absurd (omega arith)
one_line (byte ∷ bytes) (suc count) none within ends feed =
    rw (none 0 (omega arith)) (ap (onto_first byte) (one_line bytes count (λ j h. none (suc j) (omega arith)) (omega arith) (omega arith) feed))

whole_line : (text : List ℕ) → 0 < length text → ((j : ℕ) → j < length text → eqb (get_or text j 0) 10 ≡ false) → lines_of text ≡ text ∷ []
whole_line [] some none = absurd (omega arith)
whole_line (byte ∷ []) some none = rw (none 0 (omega arith)) refl
whole_line (byte ∷ next ∷ bytes) some none =
    rw (none 0 (omega arith)) (ap (onto_first byte) (whole_line (next ∷ bytes) (omega arith) (λ j h. none (suc j) (omega arith))))

-- Where the last line ends: at a feed that ends the text, or with a text that none ends.
data EndsAt (text : List ℕ) (end : ℕ) : Type 0 where
  at_feed : end + 1 ≡ length text → eqb (get_or text end 0) 10 ≡ true → EndsAt text end
  without_feed : end ≡ length text → (0 < end → eqb (get_or text (end - 1) 0) 10 ≡ false) → EndsAt text end

ends_at : (text : List ℕ) (end : ℕ) → end ≤ length text → (end < length text → (end + 1 ≡ length text) × (eqb (get_or text end 0) 10 ≡ true))
    → (end ≡ length text → 0 < end → eqb (get_or text (end - 1) 0) 10 ≡ false) → EndsAt text end
ends_at text end inside ended bare = elim (cases_lt end (length text)) [
  | inl lt ↦ at_feed (ended lt).0 (ended lt).1
  | inr all ↦ let e : end ≡ length text = omega arith in without_feed e (bare e)
]

last_of-behind : (text first : List ℕ) (at : ℕ) → at < length text → eqb (get_or text at 0) 10 ≡ true → lines_of (drop (suc at) text) ≡ first ∷ [] → last_of (lines_of text) ≡ first
last_of-behind text first at within feed rest =
    let ends : EndAs (lines_of text) (first ∷ []) = ends_as text at first [] within feed rest in
    rw ends.lines_are ends.last_is

-- The line from its start on, where it has a byte or a feed.
last_line : (text : List ℕ) (start end : ℕ) → start ≤ end → ((j : ℕ) → start ≤ j → j < end → eqb (get_or text j 0) 10 ≡ false)
    → EndsAt text end → start < length text → lines_of (drop start text) ≡ take (end - start) (drop start text) ∷ []
last_line text start end within none (at_feed last feed) some =
    one_line (drop start text) (end - start)
    (λ j h. rw (get_or-drop start text j 0) (none (start + j) (omega arith) (omega arith)))
    (omega (arith, length-drop start text)) (omega (arith, length-drop start text))
    (let e : start + (end - start) ≡ end = omega arith in rw (get_or-drop start text (end - start) 0, e) feed)
last_line text start end within none (without_feed last before) some =
    let e : end - start ≡ length (drop start text) = omega (arith, length-drop start text) in
    rw (e, take_all (length (drop start text)) (drop start text) (omega arith))
    (whole_line (drop start text) (omega (arith, length-drop start text))
    (λ j h. rw (get_or-drop start text j 0) (none (start + j) (omega arith) (omega (arith, length-drop start text)))))

-- It has a byte or a feed.
some_left : (text : List ℕ) (at end : ℕ) → suc at ≤ end → end ≤ length text → get_or text at 0 ≡ 10 → EndsAt text end → suc at < length text
some_left text at end within inside feed (at_feed last here) = omega arith
some_left text at end within inside feed (without_feed last before) = elim (cases_lt (suc at) (length text)) [
  | inl lt ↦ lt
  | inr all ↦
      let e : end - 1 ≡ at = omega arith in
      let no : eqb (get_or text at 0) 10 ≡ false = (rw e at (before (omega arith))) in
      let yes : eqb (get_or text at 0) 10 ≡ true = rw feed refl in
      absurd cc
]

from_start : (text : List ℕ) (start end : ℕ) → start ≤ end → end ≤ length text → ((j : ℕ) → start ≤ j → j < end → eqb (get_or text j 0) 10 ≡ false)
    → (0 < start → get_or text (start - 1) 0 ≡ 10) → EndsAt text end → last_of (lines_of text) ≡ take (end - start) (drop start text)
from_start [] zero zero within inside none feed ends = refl
from_start [] zero (suc end) within inside none feed ends = absurd (omega arith)
from_start [] (suc at) end within inside none feed ends = absurd (omega arith)
from_start (byte ∷ bytes) zero end within inside none feed ends = ap last_of (last_line (byte ∷ bytes) zero end within none ends (omega arith))
from_start (byte ∷ bytes) (suc at) end within inside none feed ends =
    let e : suc at - 1 ≡ at = omega arith in
    let here : get_or (byte ∷ bytes) at 0 ≡ 10 = rw e at (feed (omega arith)) in
    let left : suc at < length (byte ∷ bytes) = some_left (byte ∷ bytes) at end within inside here ends in
    last_of-behind (byte ∷ bytes) (take (end - suc at) (drop (suc at) (byte ∷ bytes))) at (omega arith) (rw here refl)
    (last_line (byte ∷ bytes) (suc at) end within none ends left)

-- The last line of a text, from its start to its end.
pub last_of-lines : (text : List ℕ) (start end : ℕ) → start ≤ end → end ≤ length text → ((j : ℕ) → start ≤ j → j < end → eqb (get_or text j 0) 10 ≡ false)
    → (0 < start → get_or text (start - 1) 0 ≡ 10) → (end < length text → (end + 1 ≡ length text) × (eqb (get_or text end 0) 10 ≡ true))
    → (end ≡ length text → 0 < end → eqb (get_or text (end - 1) 0) 10 ≡ false) → last_of (lines_of text) ≡ take (end - start) (drop start text)
last_of-lines text start end within inside none feed ended bare = from_start text start end within inside none feed (ends_at text end inside ended bare)

-- As many of the elements, at most.
pub take_most : (elements : List ℕ) (most count : ℕ) → count ≡ min (length elements) most → take (length (take count elements)) (take count elements) ≡ take most elements
take_most elements most count is = take_all (length (take count elements)) (take count elements) (omega arith) ∙ elim (cases_lt most (length elements)) [
  | inl lt ↦ (let e : count ≡ most = omega (arith, is, lt) in rw e refl)
  | inr all ↦ take_all count elements (omega (arith, is, all)) ∙ sym (take_all most elements all)
]
