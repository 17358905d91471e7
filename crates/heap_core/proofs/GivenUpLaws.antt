-- A live block that is to be given up, as the parts of a heap have it.
use Rattle.std.proofs.Common.{◌≡◌, ◌∙◌, ◌<◌, ◌≤◌, ◌+◌, ◌*◌, ◌^◌, ◌||◌, inl, inr, ℕ, Bool, true, false, List, length, get_or, refl, sym, subst, arith}
use Rattle.std.proofs.lemmas.Bool.{cases_Bool, true≢false}
use Rattle.heap_model.specs.Shadow.{bits_of}
use Rattle.heap_model.specs.ShadowLaws.{length-bits_of}
use Rattle.heap_core.specs.Consistent.{IsConsistent, either_mark, heap_state}
use Rattle.heap_model.specs.Quarantine.{freed_of}
use Rattle.heap_model.specs.declared.block.Freed.{Freed}
use Rattle.heap_model.specs.declared.block.Freed.TheVariants.{AlreadyHeld, Held, NotBlock}
use Rattle.heap_core.specs.Table.{IsBlockAt, IsLiveAt, IsNoLive}
use Rattle.heap_core.specs.declared.heap.Heap.TheInside.{Inside}
use Rattle.heap_core.proofs.ExtentLaws.{LiesWithin-table}
use Rattle.heap_core.proofs.HeapLaws.{granules_of_all, live_bytes-due}
use Rattle.heap_core.proofs.LateLaws.{get_or-either}
use Rattle.heap_core.proofs.QuarantineLaws.{freed_of-due, freed_of-late, freed_of-live, freed_of-none}

-- The block is neither due nor late, and what is counted of it fits.
pub record IsGivenUp (h : Inside) (start top k : ℕ) : Type 0 where
  pub at : IsBlockAt h.base h.table.lengths start top k
  pub unmarked : get_or (either_mark h.table.marks (bits_of h.late.items)) k false ≡ false
  pub not_due : get_or h.table.marks k false ≡ false
  pub not_late : get_or (bits_of h.late.items) k false ≡ false
  pub bit : k < 64 * length h.late.items
  pub granules : get_or h.table.lengths k 0 ≤ h.live_granules
  pub few : h.live_granules + h.due_granules + h.late_granules ≤ 2 ^ 18

neither : (a b : Bool) → (a || b) ≡ false → (a ≡ false) × (b ≡ false)
neither false false is = (refl, refl)
neither false true is = absurd (true≢false is)
neither true b is = absurd (true≢false is)

-- The row of late blocks is read as `words`.
pub given_up : {h : Inside} {words : List ℕ} {start top k : ℕ} → IsConsistent h → words ≡ h.late.items
    → IsLiveAt h.base h.table.lengths (either_mark h.table.marks (bits_of words)) start top k → IsGivenUp h start top k
given_up {h} {k} are same live =
    let unmarked : get_or (either_mark h.table.marks (bits_of h.late.items)) k false ≡ false =
    subst (λ (xs : List ℕ). get_or (either_mark h.table.marks (bits_of xs)) k false ≡ false) same live.unmarked in
    let parts = neither _ _ (sym (get_or-either h.table.marks (bits_of h.late.items) k (are.lates.same ∙ sym are.table.same)) ∙ unmarked) in
    record {
      at = live.at;
      unmarked = unmarked;
      not_due = parts.0;
      not_late = parts.1;
      bit = omega (arith, live.at.within, are.lates.same, length-bits_of h.late.items);
      granules = omega (arith, live_bytes-due _ _ are.table.same are.lates.same live.at unmarked, are.live);
      few = omega (arith, granules_of_all are, are.table.count, (LiesWithin-table are.table).limit);
    }

-- What is answered of such a block, and of what is none.
pub freed_of-given_up : {h : Inside} {start top k : ℕ} → IsConsistent h → IsGivenUp h start top k
    → freed_of (heap_state h.base h.table.lengths h.table.marks (bits_of h.late.items) h.is_open) start top ≡ Held
freed_of-given_up are given = freed_of-live are.table.same are.lates given.at given.unmarked

pub freed_of-other : {h : Inside} {words : List ℕ} (start top : ℕ) {freed : Freed} → IsConsistent h → words ≡ h.late.items
    → IsNoLive h.base h.table.lengths (either_mark h.table.marks (bits_of words)) start top freed
    → freed_of (heap_state h.base h.table.lengths h.table.marks (bits_of h.late.items) h.is_open) start top ≡ freed
freed_of-other start top {freed = Held} are same none = absurd none
freed_of-other start top {freed = NotBlock} are same none = freed_of-none _ _ _ none
freed_of-other {h} start top {freed = AlreadyHeld} are same held =
    let k = held.0 in
    let at = held.1 in
    let marked : get_or (either_mark h.table.marks (bits_of h.late.items)) k false ≡ true =
    subst (λ (xs : List ℕ). get_or (either_mark h.table.marks (bits_of xs)) k false ≡ true) same held.2 in
    let either = sym (get_or-either h.table.marks (bits_of h.late.items) k (are.lates.same ∙ sym are.table.same)) ∙ marked in
    elim (cases_Bool (get_or h.table.marks k false)) [
      | inl due ↦ freed_of-due are.table.same are.lates at due
      | inr other ↦ freed_of-late are.table.same are.lates at (rw other at either)
    ]
