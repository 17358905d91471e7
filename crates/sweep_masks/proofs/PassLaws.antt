-- A pass page by page.
use Rattle.std.proofs.Common.{◌≡◌, ◌≢◌, ◌∙◌, ◌<◌, ◌+◌, ◌-◌, ◌*◌, ◌/◌, ◌%◌, ◌&&◌, inl, inr, ℕ, Bool, true, false, List, get_or, refl, ap, subst, sym, arith}
use Rattle.std.proofs.Math.Bool.{and-false, and-true}
use Rattle.std.proofs.lemmas.Bool.{cases_eq}
use Rattle.sweep_masks.specs.Masks.{IsPassedTo, is_hit_at, is_looked_at, is_pass_hit_at}
use Rattle.tag_memory.specs.Cells.{MemoryState}
use Rattle.tag_memory.specs.Laws.{is_set_zero}
use Rattle.tag_memory.specs.Tags.{is_set, is_set_for}

hit-looked : (m : MemoryState) (shadow : List Bool) (dirty_only : Bool) (i : ℕ) → is_looked_at m dirty_only (i / 256) ≡ true
    → is_hit_at m shadow i ≡ is_pass_hit_at m shadow dirty_only i
hit-looked m shadow true i looked = sym (ap (λ (d : Bool). is_hit_at m shadow i && d) looked ∙ and-true (is_hit_at m shadow i))
hit-looked m shadow false i looked = refl

hit-passed : (m : MemoryState) (shadow : List Bool) (dirty_only : Bool) (i : ℕ) → is_looked_at m dirty_only (i / 256) ≡ false
    → false ≡ is_pass_hit_at m shadow dirty_only i
hit-passed m shadow true i looked = sym (ap (λ (d : Bool). is_hit_at m shadow i && d) looked ∙ and-false (is_hit_at m shadow i))
hit-passed m shadow false i looked = absurd cc

-- The masks of one page more, where all other words stay.
pub pages-more : (test : ℕ → Bool) (old new : List ℕ) (page : ℕ)
    → ((i : ℕ) → i / 256 ≡ page → is_set_for new i ≡ test i)
    → ((w : ℕ) → w / 4 ≢ page → get_or new w 0 ≡ get_or old w 0)
    → ((i : ℕ) → i / 256 < page → is_set_for old i ≡ test i)
    → (i : ℕ) → i / 256 < page + 1 → is_set_for new i ≡ test i
pages-more test old new page made kept before i lt = elim (cases_eq (i / 256) page) [
  | inl same ↦ made i same
  | inr other ↦ ap (λ (word : ℕ). is_set word (i % 64)) (kept (i / 64) (λ e. other (omega arith))) ∙ before i (omega arith)
]

-- One page more, that the pass looks at.
pub IsPassedTo-looked : {m : MemoryState} {shadow : List Bool} {dirty_only : Bool} {page : ℕ} {old new : List ℕ} → is_looked_at m dirty_only page ≡ true
    → ((i : ℕ) → i / 256 ≡ page - 0 → is_set_for new i ≡ is_hit_at m shadow (256 * 0 + i))
    → ((w : ℕ) → w / 4 ≢ page - 0 → get_or new w 0 ≡ get_or old w 0)
    → IsPassedTo m shadow dirty_only page old → IsPassedTo m shadow dirty_only (page + 1) new
IsPassedTo-looked {m} {shadow} {dirty_only} {page} {old} {new} looked made kept before = record {
  made = pages-more (is_pass_hit_at m shadow dirty_only) old new page
      (λ i same. let place : 256 * 0 + i ≡ i = omega arith in
      made i (omega arith) ∙ (ap (is_hit_at m shadow) place ∙ hit-looked m shadow dirty_only i (subst (λ k. is_looked_at m dirty_only k ≡ true) (sym same) looked)))
      (λ w other. kept w (λ e. other (omega arith))) before.made;
  rest = λ w from. kept w (λ e. absurd (omega arith)) ∙ before.rest w (omega arith);
}

-- And one that it passes over.
pub IsPassedTo-passed : {m : MemoryState} {shadow : List Bool} {dirty_only : Bool} {page : ℕ} {masks : List ℕ} → is_looked_at m dirty_only page ≡ false
    → IsPassedTo m shadow dirty_only page masks → IsPassedTo m shadow dirty_only (page + 1) masks
IsPassedTo-passed {m} {shadow} {dirty_only} {page} {masks} looked before = record {
  made = pages-more (is_pass_hit_at m shadow dirty_only) masks masks page
      (λ i same. ap (λ (word : ℕ). is_set word (i % 64)) (before.rest (i / 64) (omega arith)) ∙ is_set_zero (i % 64) ∙ hit-passed m shadow dirty_only i (subst (λ k. is_looked_at m dirty_only k ≡ false) (sym same) looked))
      (λ w other. refl) before.made;
  rest = λ w from. before.rest w (omega arith);
}
