use Rattle.std.proofs.Common.{◌≡◌, ◌<◌, ◌≤◌, ◌-◌, ◌*◌, ◌^◌, ◌∙◌, inl, inr, ℕ, List, false, get_or, length, sym, true, arith}
use Rattle.std.proofs.lemmas.Bool.{both_ways, cases_lt}
use Rattle.std.proofs.lemmas.List.{get_or_past}
use Rattle.heap_model.specs.Near.{LieBetween}
use Rattle.heap_model.specs.Shadow.{bits_of}
use Rattle.heap_model.specs.ShadowLaws.{get_or-bits_of, length-bits_of}
use Rattle.tag_memory.specs.Tags.{is_set_for}
use Rattle.heap_model.proofs.shadow.Shadow.painted_part.Goals as goal

set_of : (words : List ℕ) (k : ℕ) → get_or (bits_of words) k false ≡ true → is_set_for words k ≡ true
set_of words k painted = elim (cases_lt k (64 * length words)) [
  | inl inside ↦ sym (get_or-bits_of words k inside) ∙ painted
  | inr past ↦ absurd (both_ways _ (get_or_past (bits_of words) k false (omega (arith, past, length-bits_of words))) painted)
]

pub returns : goal.returns
returns c =
    let words = c.self.inside.words.items in
    let lie = c.self.invariant.1 in
    rw (← c.self.view_is) (record {
      from = λ k painted. omega (arith, lie.from k (set_of words k painted), c.min-first.ensures);
      before = λ k painted. lie.before k (set_of words k painted);
    })
