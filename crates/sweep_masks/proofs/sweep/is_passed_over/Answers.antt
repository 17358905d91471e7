use Rattle.std.proofs.Common.{◌≡◌, ◌-◌, ◌+◌, ◌*◌, ◌/◌, inl, inr, ℕ, Bool, List, false, get_or}
use Rattle.std.proofs.lemmas.Bool.{and_parts, cases_Bool, leb-true, not-true}
use Rattle.heap_model.specs.Near.{LieBetween}
use Rattle.sweep_masks.specs.Masks.{is_hit_at}
use Rattle.sweep_masks.specs.Outside.{HasBaseOutside, base_at}
use Rattle.tag_memory.specs.Cells.{MemoryState}
use Rattle.sweep_masks.proofs.sweep.is_passed_over.Goals as goal

-- A word whose base lies elsewhere than all painted granules isn't hit.
is_hit_at-outside : (m : MemoryState) (shadow : List Bool) (first end i : ℕ) → LieBetween (λ k. get_or shadow k false) first end
    → HasBaseOutside m first end i → is_hit_at m shadow i ≡ false
is_hit_at-outside m shadow first end i lie away = elim (cases_Bool (is_hit_at m shadow i)) [
  | inl hit ↦
      let painted = and_parts _ _ (and_parts _ _ hit).1 in
      let g = (base_at m i - m.base) / 16 in
      absurd (away.outside (leb-true m.base (base_at m i) painted.0) (lie.from g painted.1) (lie.before g painted.1))
  | inr none ↦ none
]

pub returns-then-is_dense : goal.returns-then-is_dense
returns-then-is_dense c = λ none j lt.
    is_hit_at-outside c.args.memory.now c.args.shadow.now c.in-Some.first c.in-Some.end (64 * c.args.w + j) c.in-Some.ensures
    (c.has_base_between.ensures (not-true _ none) j lt)
