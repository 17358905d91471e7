-- The tags of one page, taken.
use Rattle.std.proofs.Common.{◌≡◌, ◌≢◌, ◌↔◌, ℕ, ◌/◌, ◌%◌, ◌^◌, ◌==◌, ◌&&◌, ◌<◌, ◌≤◌, Bool, true, false, not, inl, inr, List, length, get_or, set, sym, refl, ap, ◌∙◌, arith, bit_and, w64, Fits, get_or-set_same, get_or-set_other}
use native.Mathlib.Decide.{ℕ_discrete}
use mathlib.Core.Logic.{dite}
use Rattle.std.specs.Int.{bit_not}
use Rattle.std.proofs.lemmas.Bool.{cases_lt, eq-eqb, ne_eqb}
use Rattle.std.proofs.lemmas.List.{get_or_past}
use Rattle.std.proofs.lemmas.Nat.{and_le_r, mod_below}
use Rattle.tag_memory.specs.Cells.{MemoryState, may_hold_at}
use Rattle.tag_memory.specs.Laws.{is_set-cleared}
use Rattle.tag_memory.specs.Tags.{AreBlank, HasTag, HasWord, IsBlank, granules_of, is_set, is_set_for, without_page_tag}
use Rattle.tag_memory.specs.declared.memory.Memory.TheInside.{Inside}
use Rattle.tag_memory.proofs.PackedLaws.{Packs}
use Rattle.tag_memory.proofs.PageLaws.{mark_by}
use Rattle.tag_memory.proofs.TagLaws.{get_or-granules_of, length-granules_of}

-- Of this page the tags of its masks are taken, and the answer is whether one is left. The other pages are as before.
pub record IsPageTaken (masks before after : List ℕ) (page : ℕ) (answer : Bool) : Type 0 where
  pub count : length after ≡ length before
  pub words : (w : ℕ) → w / 4 ≡ page → get_or after w 0 ≡ bit_and (get_or before w 0) (bit_not w64 (get_or masks (w % 4) 0))
  pub rest : (w : ℕ) → w / 4 ≢ page → get_or after w 0 ≡ get_or before w 0
  pub none : answer ≡ false → IsBlank after page
  pub some : answer ≡ true → HasWord after page

keep : (b : Bool) → b ≡ (b && not false)
keep true = refl
keep false = refl

-- Whether a granule is tagged then.
tag-left : {masks before after : List ℕ} {page : ℕ} {answer : Bool} → IsPageTaken masks before after page answer → ((w : ℕ) → Fits w64 (get_or masks w 0)) → (i : ℕ)
    → is_set_for after i ≡ (is_set_for before i && not ((i / 256 == page) && is_set_for masks (i % 256)))
tag-left {masks = masks} {before = before} {after = after} {page = page} t fits i =
    dite (ℕ_discrete (i / 256) page)
    (λ here.
    let word : i / 64 / 4 ≡ page = omega (arith, here) in
    let at : (i % 256) / 64 ≡ (i / 64) % 4 = omega arith in
    let place : (i % 256) % 64 ≡ i % 64 = omega arith in
    ap (λ (x : ℕ). is_set x (i % 64)) (t.words (i / 64) word)
    ∙ (is_set-cleared (get_or before (i / 64) 0) (get_or masks ((i / 64) % 4) 0) (i % 64) (fits ((i / 64) % 4)).fits (mod_below i 64 (omega arith))
    ∙ ((λ k. is_set_for before i && not (is_set (get_or masks (sym at k) 0) (sym place k)))
    ∙ ap (λ (b : Bool). is_set_for before i && not (b && is_set_for masks (i % 256))) (sym (eq-eqb (i / 256) page here)))))
    (λ other.
    ap (λ (x : ℕ). is_set x (i % 64)) (t.rest (i / 64) (λ same. other (omega (arith, same))))
    ∙ (keep (is_set_for before i)
    ∙ ap (λ (b : Bool). is_set_for before i && not (b && is_set_for masks (i % 256))) (sym (ne_eqb (i / 256) page other))))

-- A page that may hold no tags has none.
pub blank_page : {m : Inside} {state : MemoryState} → Packs m state → (page : ℕ) → may_hold_at m.may_hold.items page ≡ false → IsBlank m.tags.items page
unfolding AreBlank
blank_page p page unmarked = p.invariant.blank page unmarked

-- What is left of a memory with these fields.
module _ {m : Inside} {state : MemoryState} (p : Packs m state) {masks after : List ℕ} {page : ℕ} {answer : Bool} (t : IsPageTaken masks m.tags.items after page answer) (inside : page < length m.may_hold.items) where
  pub left_blank : AreBlank after (set m.may_hold.items page answer)
  unfolding AreBlank
  left_blank other unmarked w of_page =
      dite (ℕ_discrete other page)
      (λ same. t.none (sym (ap (may_hold_at (set m.may_hold.items page answer)) same ∙ get_or-set_same m.may_hold.items page answer false inside) ∙ unmarked) w (of_page ∙ same))
      (λ apart.
      t.rest w (λ here. apart (sym of_page ∙ here))
      ∙ p.invariant.blank other (sym (get_or-set_other m.may_hold.items page other answer false apart) ∙ unmarked) w of_page)

  pub left_granule : ((w : ℕ) → Fits w64 (get_or masks w 0)) → (i : ℕ) → get_or (granules_of m.bits.items after) i (0, false) ≡ without_page_tag page masks i (get_or state.granules i (0, false))
  left_granule fits i =
      let old : get_or (granules_of m.bits.items m.tags.items) i (0, false) ≡ get_or state.granules i (0, false) = ap (λ (s : MemoryState). get_or s.granules i (0, false)) p.view in
      elim (cases_lt i (length m.bits.items)) [
        | inl lt ↦
            get_or-granules_of m.bits.items after i lt
            ∙ ((λ k. (get_or m.bits.items i 0, tag-left t fits i k))
            ∙ ap (without_page_tag page masks i) (sym (get_or-granules_of m.bits.items m.tags.items i lt) ∙ old))
        | inr past ↦
            get_or_past (granules_of m.bits.items after) i (0, false) (omega (arith, past, length-granules_of m.bits.items after))
            ∙ ap (without_page_tag page masks i) (sym (get_or_past (granules_of m.bits.items m.tags.items) i (0, false) (omega (arith, past, length-granules_of m.bits.items m.tags.items))) ∙ old)
      ]

  fits_left : (w : ℕ) → w / 4 ≡ page → get_or after w 0 < 2 ^ 64
  fits_left w of_page =
      let mask : ℕ = get_or masks (w % 4) 0 in
      let least : get_or after w 0 ≤ bit_not w64 mask = rw (t.words w of_page) (and_le_r (get_or m.tags.items w 0) (bit_not w64 mask)) in
      let below : bit_not w64 mask < 2 ^ 64 = omega arith in
      omega (arith, least, below)

  pub left_mark : (may_hold_at (set m.may_hold.items page answer) page ≡ true) ↔ HasTag (granules_of m.bits.items after) page
  left_mark =
      mark_by m.bits.items after (set m.may_hold.items page answer) page (omega (arith, t.count, p.invariant)) fits_left left_blank
      (λ marked. t.some (sym (get_or-set_same m.may_hold.items page answer false inside) ∙ marked))
