-- A memory's fields, and the granules as which it is seen.
use Rattle.std.proofs.Common.{◌≡◌, ◌↔◌, ℕ, ◌+◌, ◌*◌, ◌/◌, ◌%◌, ◌^◌, ◌==◌, ◌<◌, ◌≤◌, Bool, false, true, if◌then◌else◌, inl, inr, Some, List, length, get_or, set, take, sym, ap, ◌∙◌, subst, arith, bit_and, w64, Fits}
use Rattle.std.specs.Int.{bit_not}
use Rattle.std.specs.Int.RustNames.{count_ones}
use Rattle.std.specs.List.{All, count_by, slice_get}
use Rattle.std.proofs.lemmas.Bool.{cases_lt}
use Rattle.std.proofs.lemmas.List.{get_or_past, get_or_read, length-map, take_all}
use Rattle.std.proofs.lemmas.List.Elements.{All-from_get_or}
use Rattle.std.proofs.lemmas.Nat.{and_le_r, div_below}
use Rattle.std.proofs.lemmas.Option.{slice_get-get_or}
use Rattle.tag_memory.specs.Bases.{base_granule}
use Rattle.tag_memory.specs.Cells.{AreUntagged, Granule, IsMemory, MemoryState, is_dirty_at, marks_after, may_hold_at}
use Rattle.tag_memory.specs.Tags.{AreBlank, HasTag, granules_of, is_set, is_set_for, is_tagged, tag_word, without_tags}
use Rattle.tag_memory.specs.declared.memory.Memory.TheInside.{Inside}
use Rattle.tag_memory.specs.contracts.memory.Memory.{the_view, the_invariant}
use Rattle.tag_memory.proofs.BaseLaws.{base_granule-read}
use Rattle.tag_memory.proofs.PageLaws.{blank-marked, blank-unmarked, marks_by, untagged_by}
use Rattle.tag_memory.proofs.TagLaws.{length-granules_of, get_or-granules_of, granules_of-set, is_set-granules_of, tag_word-granules_of, count_more, without_tags-granules_of}
use Rattle.tag_memory.proofs.TakenLaws.{ArePageTagsTaken, blank-taken, some-taken}

-- A memory with these fields is seen as this state.
pub record Packs (m : Inside) (state : MemoryState) : Type 0 where
  pub view : the_view m ≡ state
  pub invariant : the_invariant m

granules : {m : Inside} {state : MemoryState} → Packs m state → granules_of m.bits.items m.tags.items ≡ state.granules
granules p = ap (λ (s : MemoryState). s.granules) p.view

-- how many granules there are
pub count : {m : Inside} {state : MemoryState} → Packs m state → length state.granules ≡ 256 * m.pages
count {m = m} p = ap length (sym (granules p)) ∙ (length-granules_of m.bits.items m.tags.items ∙ p.invariant.granules)

abbrev has_128_bits : Granule → Type 0
has_128_bits granule = granule.0 < 2 ^ 128

-- each granule's number has 128 bits
numbers : {m : Inside} {state : MemoryState} → Packs m state → All has_128_bits state.granules
numbers {m = m} p =
    let below = λ (i : ℕ) (h : i < length (granules_of m.bits.items m.tags.items)).
    let at : i < length m.bits.items = omega (arith, h, length-granules_of m.bits.items m.tags.items) in
    subst has_128_bits (sym (get_or-granules_of m.bits.items m.tags.items i at)) (p.invariant.numbers i 0 at) in
    subst (All has_128_bits) (granules p) (All-from_get_or has_128_bits _ (0, false) below)

-- which pages may hold tags
marks : {m : Inside} {state : MemoryState} → Packs m state → m.may_hold.items ≡ state.may_hold
marks p = ap (λ (s : MemoryState). s.may_hold) p.view

pub marks_count : {m : Inside} {state : MemoryState} → Packs m state → length state.may_hold ≡ m.pages
marks_count p = ap length (sym (marks p)) ∙ p.invariant.marks

pub untagged : {m : Inside} {state : MemoryState} → Packs m state → AreUntagged state.granules state.may_hold
untagged {m = m} {state = state} p =
    let of_fields : AreUntagged (granules_of m.bits.items m.tags.items) m.may_hold.items = untagged_by m.bits.items m.tags.items m.may_hold.items p.invariant.blank in
    subst (λ (marks : List Bool). AreUntagged state.granules marks) (marks p)
    (subst (λ (granules : List Granule). AreUntagged granules m.may_hold.items) (granules p) of_fields)

-- whether one may, read
pub marked_at : {m : Inside} {state : MemoryState} → Packs m state → (page : ℕ) (read : Bool) → 256 * page < length state.granules → read ≡ get_or m.may_hold.items page read
    → read ≡ may_hold_at state.may_hold page
marked_at {m = m} p page read h e =
    get_or_read m.may_hold.items page read (omega (arith, count p, p.invariant, h)) e false ∙ ap (λ (pages : List Bool). may_hold_at pages page) (marks p)

-- which pages are dirty
dirt : {m : Inside} {state : MemoryState} → Packs m state → m.dirty.items ≡ state.dirty
dirt p = ap (λ (s : MemoryState). s.dirty) p.view

pub dirty_count : {m : Inside} {state : MemoryState} → Packs m state → length state.dirty ≡ m.pages
dirty_count p = ap length (sym (dirt p)) ∙ p.invariant.dirty_marks

-- whether one is, read
pub dirty_at : {m : Inside} {state : MemoryState} → Packs m state → (page : ℕ) (read : Bool) → 256 * page < length state.granules → read ≡ get_or m.dirty.items page read
    → read ≡ is_dirty_at state.dirty page
dirty_at {m = m} p page read h e =
    get_or_read m.dirty.items page read (omega (arith, count p, p.invariant, h)) e false ∙ ap (λ (pages : List Bool). is_dirty_at pages page) (dirt p)

-- what holds of every memory
pub whole : {m : Inside} {state : MemoryState} → Packs m state → IsMemory state
whole {m = m} p = record {
  pages = m.pages;
  count = count p;
  marks = marks_count p;
  dirty_marks = dirty_count p;
  untagged = untagged p;
  size = p.invariant.size;
  place = rw (← (ap (λ (s : MemoryState). s.base) p.view)) p.invariant.place;
  numbers = numbers p;
}

-- where a granule's number and its word are
pub place : {m : Inside} {state : MemoryState} → Packs m state → (i : ℕ) → i < length state.granules → (i < length m.bits.items) × (i / 64 < length m.tags.items)
place {m = m} p i h =
    let long = count p in
    (omega (arith, p.invariant), div_below i 64 (length m.tags.items) (omega arith) (omega (arith, p.invariant)))

-- where a word is
pub word_place : {m : Inside} {state : MemoryState} → Packs m state → (w : ℕ) → 64 * w < length state.granules → (w < length m.tags.items) × (64 * w + 64 ≤ length m.bits.items)
word_place p w h =
    let long = count p in
    (omega (arith, p.invariant), omega (arith, p.invariant))

-- a granule, read
pub read : {m : Inside} {state : MemoryState} → Packs m state → (i number word : ℕ) → i < length state.granules → number ≡ get_or m.bits.items i number → word ≡ get_or m.tags.items (i / 64) word
    → slice_get state.granules i ≡ Some (number, is_set word (i % 64))
read {m = m} {state = state} p i number word h n w =
    let at = place p i h in
    let number_is : number ≡ get_or m.bits.items i 0 = get_or_read m.bits.items i number at.0 n 0 in
    let word_is : word ≡ get_or m.tags.items (i / 64) 0 = get_or_read m.tags.items (i / 64) word at.1 w 0 in
    let cell : get_or state.granules i (0, false) ≡ (get_or m.bits.items i 0, is_set_for m.tags.items i) = ap (λ (xs : List Granule). get_or xs i (0, false)) (sym (granules p)) ∙ get_or-granules_of m.bits.items m.tags.items i at.0 in
    slice_get-get_or state.granules i (0, false) h ∙ ap (λ (x : Granule). Some x) (cell ∙ (λ k. (sym number_is k, is_set (sym word_is k) (i % 64))))

-- where the base of its word lies, as it is kept
bases_count : {m : Inside} {state : MemoryState} → Packs m state → length m.granules_of_bases.items ≡ length m.bits.items
bases_count {m = m} p = ap length p.invariant.bases ∙ length-map m.bits.items (λ (number : ℕ). base_granule m.base (record { bits = number }))

pub base_place : {m : Inside} {state : MemoryState} → Packs m state → (i : ℕ) → i < length state.granules → i < length m.granules_of_bases.items
base_place p i h = omega (arith, place p i h, bases_count p)

pub base_read : {m : Inside} {state : MemoryState} → Packs m state → (i read : ℕ) → i < length state.granules → read ≡ get_or m.granules_of_bases.items i read
    → read ≡ base_granule state.base (record { bits = (get_or state.granules i (0, false)).0 })
base_read {m = m} {state = state} p i read h e =
    let at = place p i h in
    let cell : get_or state.granules i (0, false) ≡ (get_or m.bits.items i 0, is_set_for m.tags.items i) = ap (λ (xs : List Granule). get_or xs i (0, false)) (sym (granules p)) ∙ get_or-granules_of m.bits.items m.tags.items i at.0 in
    base_granule-read m.base m.bits.items m.granules_of_bases.items i read p.invariant.bases (bases_count p) at.0 e
    ∙ (ap (λ (s : MemoryState). base_granule s.base (record { bits = get_or m.bits.items i 0 })) p.view
    ∙ ap (λ (x : Granule). base_granule state.base (record { bits = x.0 })) (sym cell))

-- a granule, written
pub written : {m : Inside} {state : MemoryState} → Packs m state → (i number word new : ℕ) (tag : Bool) → i < length state.granules → word ≡ get_or m.tags.items (i / 64) word
    → ((j : ℕ) → j < 64 → is_set new j ≡ (if j == i % 64 then tag else is_set word j))
    → granules_of (set m.bits.items i number) (set m.tags.items (i / 64) new) ≡ set state.granules i (number, tag)
written {m = m} p i number word new tag h w each =
    let at = place p i h in
    let word_is : word ≡ get_or m.tags.items (i / 64) 0 = get_or_read m.tags.items (i / 64) word at.1 w 0 in
    granules_of-set m.bits.items m.tags.items i number new tag (omega (arith, p.invariant)) at.0
    (λ j lt. each j lt ∙ ap (λ (x : ℕ). if j == i % 64 then tag else is_set x j) word_is)
    ∙ ap (λ (xs : List Granule). set xs i (number, tag)) (granules p)

-- a word of tags, as one number
pub word_value : {m : Inside} {state : MemoryState} → Packs m state → (w word : ℕ) → 64 * w < length state.granules → word < 2 ^ 64 → word ≡ get_or m.tags.items w word → word ≡ tag_word state.granules w
word_value {m = m} p w word h fits e =
    let at = word_place p w h in
    let word_is : word ≡ get_or m.tags.items w 0 = get_or_read m.tags.items w word at.0 e 0 in
    word_is ∙ (tag_word-granules_of m.bits.items m.tags.items w at.1 (rw (← word_is) fits) ∙ ap (λ (xs : List Granule). tag_word xs w) (granules p))

-- a bit of a word of tags
pub word_bit : {m : Inside} {state : MemoryState} → Packs m state → (w word j : ℕ) → 64 * w < length state.granules → word ≡ get_or m.tags.items w word → j < 64 → is_set word j ≡ is_tagged state.granules (64 * w + j)
word_bit {m = m} p w word j h e lt =
    let at = word_place p w h in
    ap (λ (x : ℕ). is_set x j) (get_or_read m.tags.items w word at.0 e 0)
    ∙ (is_set-granules_of m.bits.items m.tags.items w j (omega (arith, at.1)) lt ∙ ap (λ (xs : List Granule). is_tagged xs (64 * w + j)) (granules p))

-- the tags of one word more, counted
pub count_next : {m : Inside} {state : MemoryState} → Packs m state → (words : List ℕ) (w : ℕ) → words ≡ m.tags.items → w < length words → ((k : ℕ) → Fits w64 (get_or words k 0))
    → count_by (λ (cell : Granule). cell.1) (take (64 * w) state.granules) + count_ones (get_or words w 0) ≡ count_by (λ (cell : Granule). cell.1) (take (64 * (w + 1)) state.granules)
count_next {m = m} p words w e h fits =
    let long : length words ≡ length m.tags.items = ap length e in
    let word_is : get_or words w 0 ≡ get_or m.tags.items w 0 = ap (λ (xs : List ℕ). get_or xs w 0) e in
    let within : 64 * w + 64 ≤ length m.bits.items = omega (arith, p.invariant) in
    let more = count_more m.bits.items m.tags.items w within (rw (← word_is) (fits w).fits) in
    rw word_is (sym (rw (granules p) at more))

-- the tags of all words, counted
pub count_whole : {m : Inside} {state : MemoryState} → Packs m state → (words : List ℕ) (w : ℕ) → words ≡ m.tags.items → length words ≤ w
    → count_by (λ (cell : Granule). cell.1) (take (64 * w) state.granules) ≡ count_by (λ (cell : Granule). cell.1) state.granules
count_whole {m = m} {state = state} p words w e h =
    let long = count p in
    let same : length words ≡ length m.tags.items = ap length e in
    ap (count_by (λ (cell : Granule). cell.1)) (take_all (64 * w) state.granules (omega (arith, p.invariant)))

-- the tags of masks, taken
pub cleared : {m : Inside} {state : MemoryState} → Packs m state → (masks kept new : List ℕ) → 64 * length masks ≡ length state.granules → ((k : ℕ) → Fits w64 (get_or masks k 0)) → kept ≡ m.bits.items
    → ((k : ℕ) → k < length masks → get_or new k 0 ≡ bit_and (get_or m.tags.items k 0) (bit_not w64 (get_or masks k 0)))
    → granules_of kept new ≡ without_tags masks state.granules
cleared {m = m} p masks kept new h fits same each =
    let long = count p in
    ap (λ (xs : List ℕ). granules_of xs new) same
    ∙ (without_tags-granules_of m.bits.items m.tags.items masks new (omega (arith, p.invariant)) (λ k. (fits k).fits) (λ k lt. each k (omega (arith, p.invariant)))
    ∙ ap (without_tags masks) (granules p))

-- how many granules there are then
pub cleared_count : {m : Inside} {state : MemoryState} → Packs m state → (kept new : List ℕ) → kept ≡ m.bits.items → length (granules_of kept new) ≡ length state.granules
cleared_count p kept new same = length-granules_of kept new ∙ (ap length same ∙ (p.invariant.granules ∙ sym (count p)))

-- ---- a granule written, and its page

-- where its page is
pub page_place : {m : Inside} {state : MemoryState} → Packs m state → (i : ℕ) → i < length state.granules → i / 256 < length m.may_hold.items
page_place {m = m} p i h = omega (arith, count p, p.invariant, h)

-- what holds of the fields then
pub put_marked : {m : Inside} {state : MemoryState} → Packs m state → (i word : ℕ) → i < length state.granules
    → AreBlank (set m.tags.items (i / 64) word) (set m.may_hold.items (i / 256) true)
put_marked {m = m} p i word h = blank-marked m.tags.items m.may_hold.items i word (page_place p i h) p.invariant.blank

pub put_unmarked : {m : Inside} {state : MemoryState} → Packs m state → (i word old : ℕ) (tag : Bool) → i < length state.granules → word < 2 ^ 64 → old ≡ get_or m.tags.items (i / 64) old → tag ≡ false
    → ((j : ℕ) → j < 64 → is_set word j ≡ (if j == i % 64 then tag else is_set old j))
    → AreBlank (set m.tags.items (i / 64) word) m.may_hold.items
put_unmarked {m = m} p i word old tag h fits e off each =
    let at = place p i h in
    let old_is : old ≡ get_or m.tags.items (i / 64) 0 = get_or_read m.tags.items (i / 64) old at.1 e 0 in
    let bits : (j : ℕ) → j < 64 → is_set word j ≡ (if j == i % 64 then false else is_set (get_or m.tags.items (i / 64) 0) j) =
    λ j below. each j below ∙ (λ k. if j == i % 64 then off k else is_set (old_is k) j) in
    blank-unmarked m.tags.items m.may_hold.items i word fits at.1 bits p.invariant.blank

-- which pages may hold tags then
pub put_mark : {m : Inside} {state : MemoryState} → Packs m state → (i : ℕ) (tag : Bool) → tag ≡ true → set m.may_hold.items (i / 256) true ≡ marks_after state.may_hold i tag
put_mark {state = state} p i tag on = ap (λ (pages : List Bool). set pages (i / 256) true) (marks p) ∙ ap (marks_after state.may_hold i) (sym on)

pub put_no_mark : {m : Inside} {state : MemoryState} → Packs m state → (i : ℕ) (tag : Bool) → tag ≡ false → m.may_hold.items ≡ marks_after state.may_hold i tag
put_no_mark {state = state} p i tag off = marks p ∙ ap (marks_after state.may_hold i) (sym off)

-- which are dirty then
pub put_dirt : {m : Inside} {state : MemoryState} → Packs m state → (i : ℕ) (tag : Bool) → tag ≡ true → set m.dirty.items (i / 256) true ≡ marks_after state.dirty i tag
put_dirt {state = state} p i tag on = ap (λ (pages : List Bool). set pages (i / 256) true) (dirt p) ∙ ap (marks_after state.dirty i) (sym on)

pub put_no_dirt : {m : Inside} {state : MemoryState} → Packs m state → (i : ℕ) (tag : Bool) → tag ≡ false → m.dirty.items ≡ marks_after state.dirty i tag
put_no_dirt {state = state} p i tag off = dirt p ∙ ap (marks_after state.dirty i) (sym off)

-- ---- the tags of masks taken

-- what was taken of all pages
module _ {m : Inside} {state : MemoryState} (p : Packs m state) {masks after : List ℕ} {left : List Bool} {page : ℕ} (t : ArePageTagsTaken masks m.tags.items after m.may_hold.items left page) (all : length left ≤ page) where
  pub taken_blank : AreBlank after left
  taken_blank = blank-taken t all (p.invariant.words ∙ ap (λ (n : ℕ). 4 * n) (sym p.invariant.marks))

  pub taken_word : (w : ℕ) → w < length m.tags.items → get_or after w 0 ≡ bit_and (get_or m.tags.items w 0) (bit_not w64 (get_or masks w 0))
  taken_word w h = t.done w (omega (arith, h, all, t.marks, p.invariant))

  -- a word without the tags of a mask has no more bits than there are
  fits : (w : ℕ) → get_or after w 0 < 2 ^ 64
  fits w = elim (cases_lt w (length m.tags.items)) [
    | inl inside ↦
        let mask : ℕ = get_or masks w 0 in
        let least : get_or after w 0 ≤ bit_not w64 mask = rw (taken_word w inside) (and_le_r (get_or m.tags.items w 0) (bit_not w64 mask)) in
        let below : bit_not w64 mask < 2 ^ 64 = omega arith in
        omega (arith, least, below)
    | inr past ↦ rw (get_or_past after w 0 (omega (arith, past, t.count))) (omega arith)
  ]

  pub taken_marks : (kept : List ℕ) → kept ≡ m.bits.items → (page : ℕ) → (may_hold_at left page ≡ true) ↔ HasTag (granules_of kept after) page
  taken_marks kept same = marks_by kept after left (ap length same ∙ omega (arith, t.count, p.invariant)) fits taken_blank (some-taken t all)
