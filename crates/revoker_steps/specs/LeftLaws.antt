-- That no tagged word has its base in a painted block can be counted.
use Rattle.std.proofs.Common.{◌≡◌, ℕ, zero, suc, Bool, true, false, cond, List, [], ◌∷◌, get_or, refl, ap, arith}
use Rattle.std.specs.Prelude.{count_by}
use Rattle.std.proofs.lemmas.List.Sums.{sum_by-cons}
use Rattle.heap_model.specs.Sweep.{takes_tag}
use Rattle.tag_memory.specs.Cells.{Granule, cell_of, null_cell}
use Rattle.machine_steps.specs.State.{State}
use Rattle.revoker_steps.specs.Revoker.{IsNothingLeft, tags_left}

count_zero : {X : Type 0} (p : X → Bool) (d : X) (xs : List X) → count_by p xs ≡ 0 → p d ≡ false → (i : ℕ) → p (get_or xs i d) ≡ false
count_zero p d [] none past i = past
count_zero p d (x ∷ xs) none past zero =
    let weight : Bool → ℕ = λ b. cond b 1 0 in
    let here : weight (p x) ≡ 0 = omega (arith, none, sum_by-cons (λ y. cond (p y) 1 0) x xs) in
    off (p x) here where
      off : (b : Bool) → cond b 1 0 ≡ zero → b ≡ false
      off true e = absurd (omega (arith, e))
      off false e = refl
count_zero p d (x ∷ xs) none past (suc i) =
    let rest : count_by p xs ≡ 0 = omega (arith, none, sum_by-cons (λ y. cond (p y) 1 0) x xs) in
    count_zero p d xs rest past i

pub counted : (s : State) → tags_left s ≡ 0 → IsNothingLeft s s.heap.painted
counted s none =
    let granules : count_by (λ (g : Granule). takes_tag s.heap.painted (cell_of g)) s.granules ≡ 0 = omega (arith, none) in
    let registers : count_by (takes_tag s.heap.painted) s.registers ≡ 0 = omega (arith, none) in
    record {
      granules = count_zero (λ (g : Granule). takes_tag s.heap.painted (cell_of g)) (0, false) s.granules granules refl;
      registers = count_zero (takes_tag s.heap.painted) null_cell s.registers registers refl;
    }

pub count_none : {X : Type 0} (p : X → Bool) (d : X) (xs : List X) → ((i : ℕ) → p (get_or xs i d) ≡ false) → count_by p xs ≡ 0
count_none p d [] each = refl
count_none p d (x ∷ xs) each =
    let weight : Bool → ℕ = λ b. cond b 1 0 in
    let here : weight (p x) ≡ 0 = ap weight (each 0) in
    omega (arith, sum_by-cons (λ y. cond (p y) 1 0) x xs, here, count_none p d xs (λ i. each (suc i)))

pub tags_left-none : (s : State) → IsNothingLeft s s.heap.painted → tags_left s ≡ 0
tags_left-none s left =
    let granules = count_none (λ (g : Granule). takes_tag s.heap.painted (cell_of g)) (0, false) s.granules left.granules in
    let registers = count_none (takes_tag s.heap.painted) null_cell s.registers left.registers in
    omega (arith, granules, registers)
