-- Pages that may hold tags, and the words of their tags.
use Rattle.std.proofs.Common.{◌≡◌, ◌≢◌, ◌↔◌, ℕ, ◌+◌, ◌*◌, ◌/◌, ◌%◌, ◌^◌, ◌==◌, ◌<◌, Bool, true, false, if◌then◌else◌, inl, inr, List, length, get_or, set, replicate, sym, refl, ap, ◌∙◌, arith, get_or-set_same, get_or-set_other}
use native.Mathlib.Decide.{ℕ_discrete}
use mathlib.Core.Logic.{dite}
use Rattle.std.specs.Int.{bit_at}
use Rattle.std.proofs.lemmas.Bool.{cases_Bool, cases_lt, true≢false}
use Rattle.std.proofs.lemmas.List.{get_or_past}
use Rattle.std.proofs.lemmas.Nat.Bits.{bit_at-lt, bit_at-zero, same_from_bits_below}
use Rattle.tag_memory.specs.Cells.{Granule, AreUntagged, may_hold_at}
use Rattle.tag_memory.specs.Laws.{is_set_zero, of_test, some_bit}
use Rattle.tag_memory.specs.Tags.{AreBlank, HasTag, HasWord, granules_of, is_set, is_set_for, is_tagged}
use Rattle.tag_memory.proofs.TagLaws.{get_or-granules_of, length-granules_of, zero_at}

-- ---- words and bits

-- A word none of whose bits is 1 is 0.
no_bits : (word : ℕ) → word < 2 ^ 64 → ((j : ℕ) → j < 64 → is_set word j ≡ false) → word ≡ 0
no_bits word fits each =
    same_from_bits_below 64 word 0 fits (omega arith)
    (λ j below. sym (of_test (bit_at word j) (bit_at-lt word j)) ∙ (ap (λ (b : Bool). if b then 1 else 0) (each j below) ∙ sym (bit_at-zero j)))

-- A bit of a word that is 0.
no_tag : (tags : List ℕ) (i : ℕ) → get_or tags (i / 64) 0 ≡ 0 → is_set_for tags i ≡ false
no_tag tags i none = ap (λ (word : ℕ). is_set word (i % 64)) none ∙ is_set_zero (i % 64)

-- ---- tags by pages

-- A granule, by the words of tags.
tagged_by : (bits tags : List ℕ) (i : ℕ) → i < length bits → is_tagged (granules_of bits tags) i ≡ is_set_for tags i
tagged_by bits tags i inside = ap (λ (cell : Granule). cell.1) (get_or-granules_of bits tags i inside)

-- A page that may hold no tags has no tagged granule.
pub untagged_by : (bits tags : List ℕ) (may_hold : List Bool) → AreBlank tags may_hold → AreUntagged (granules_of bits tags) may_hold
unfolding AreBlank
untagged_by bits tags may_hold blank i none =
    let granules : List Granule = granules_of bits tags in
    elim (cases_lt i (length bits)) [
      | inl inside ↦ tagged_by bits tags i inside ∙ no_tag tags i (blank (i / 256) none (i / 64) (omega arith))
      | inr past ↦ ap (λ (cell : Granule). cell.1) (get_or_past granules i (0, false) (omega (arith, past, length-granules_of bits tags)))
    ]

-- A page may hold tags just where it has a tagged granule, if it then has a word that isn't 0.
pub mark_by : (bits tags : List ℕ) (may_hold : List Bool) (page : ℕ) → length bits ≡ 64 * length tags → ((w : ℕ) → w / 4 ≡ page → get_or tags w 0 < 2 ^ 64) → AreBlank tags may_hold
    → (may_hold_at may_hold page ≡ true → HasWord tags page)
    → (may_hold_at may_hold page ≡ true) ↔ HasTag (granules_of bits tags) page
mark_by bits tags may_hold page long fits blank some =
    let there : may_hold_at may_hold page ≡ true → HasTag (granules_of bits tags) page = λ marked.
    let of_page = some marked in
    let bit = some_bit 64 (get_or tags of_page.word 0) (fits of_page.word of_page.inside) of_page.some in
    let inside : of_page.word < length tags = elim (cases_lt of_page.word (length tags)) [
      | inl inside ↦ inside
      | inr past ↦ absurd (of_page.some (get_or_past tags of_page.word 0 past))
    ] in
    let granule : ℕ = 64 * of_page.word + bit.bit in
    let word : granule / 64 ≡ of_page.word = omega (arith, bit.below) in
    let place : granule % 64 ≡ bit.bit = omega (arith, bit.below) in
    let is : is_set_for tags granule ≡ true = rw (word, place) bit.one in
    let at : granule / 256 ≡ page = omega (arith, bit.below, of_page.inside) in
    record { granule = granule; inside = at; tag = tagged_by bits tags granule (omega (arith, bit.below, inside, long)) ∙ is } in
    let back : HasTag (granules_of bits tags) page → may_hold_at may_hold page ≡ true = λ tag.
    elim (cases_Bool (may_hold_at may_hold page)) [
      | inl marked ↦ marked
      | inr unmarked ↦ absurd (true≢false (sym tag.tag ∙ untagged_by bits tags may_hold blank tag.granule (ap (may_hold_at may_hold) tag.inside ∙ unmarked)))
    ] in
    (there, back)

-- So it is of all pages.
pub marks_by : (bits tags : List ℕ) (may_hold : List Bool) → length bits ≡ 64 * length tags → ((w : ℕ) → get_or tags w 0 < 2 ^ 64) → AreBlank tags may_hold
    → ((page : ℕ) → may_hold_at may_hold page ≡ true → HasWord tags page)
    → (page : ℕ) → (may_hold_at may_hold page ≡ true) ↔ HasTag (granules_of bits tags) page
marks_by bits tags may_hold long fits blank some page = mark_by bits tags may_hold page long (λ w _. fits w) blank (some page)

-- ---- a new memory

pub blank-zeros : (words : ℕ) (may_hold : List Bool) → AreBlank (replicate words 0) may_hold
unfolding AreBlank
blank-zeros words may_hold page unmarked w inside = zero_at words w

-- ---- a granule written

-- with a tag
pub blank-marked : (tags : List ℕ) (may_hold : List Bool) (i word : ℕ) → i / 256 < length may_hold → AreBlank tags may_hold
    → AreBlank (set tags (i / 64) word) (set may_hold (i / 256) true)
unfolding AreBlank
blank-marked tags may_hold i word inside blank page unmarked w of_page =
    dite (ℕ_discrete page (i / 256))
    (λ same. absurd (true≢false (sym (ap (may_hold_at (set may_hold (i / 256) true)) same ∙ get_or-set_same may_hold (i / 256) true false inside) ∙ unmarked)))
    (λ other.
    let elsewhere : w ≢ i / 64 = λ same. other (omega arith) in
    get_or-set_other tags (i / 64) w word 0 elsewhere ∙ blank page (sym (get_or-set_other may_hold (i / 256) page true false other) ∙ unmarked) w of_page)

unset : (j : ℕ) (here : Bool) (old : ℕ) → old ≡ 0 → (if here then false else is_set old j) ≡ false
unset j true old none = refl
unset j false old none = ap (λ (word : ℕ). is_set word j) none ∙ is_set_zero j

-- without one
pub blank-unmarked : (tags : List ℕ) (may_hold : List Bool) (i word : ℕ) → word < 2 ^ 64 → i / 64 < length tags
    → ((j : ℕ) → j < 64 → is_set word j ≡ (if j == i % 64 then false else is_set (get_or tags (i / 64) 0) j)) → AreBlank tags may_hold
    → AreBlank (set tags (i / 64) word) may_hold
unfolding AreBlank
blank-unmarked tags may_hold i word fits inside each blank page unmarked w of_page =
    dite (ℕ_discrete w (i / 64))
    (λ same.
    let old : get_or tags (i / 64) 0 ≡ 0 = blank page unmarked (i / 64) (ap (λ (k : ℕ). k / 4) (sym same) ∙ of_page) in
    let none = λ (j : ℕ) (below : j < 64). each j below ∙ unset j (j == i % 64) (get_or tags (i / 64) 0) old in
    ap (λ (k : ℕ). get_or (set tags (i / 64) word) k 0) same ∙ (get_or-set_same tags (i / 64) word 0 inside ∙ no_bits word fits none))
    (λ other. get_or-set_other tags (i / 64) w word 0 other ∙ blank page unmarked w of_page)
