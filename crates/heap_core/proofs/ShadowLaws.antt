-- A list of bits as the shadow of a heap.
use Rattle.std.proofs.Common.{◌≡◌, ◌<◌, ◌*◌, ◌-◌, ◌/◌, ℕ, Bool, true, false, List, length, get_or, refl, sym, ap, ◌∙◌, arith}
use Rattle.heap_model.specs.Quarantine.{IsShadow}
use Rattle.heap_model.specs.Blocks.{Span, lies_in}
use Rattle.heap_core.specs.Consistent.{heap_state}
use Rattle.heap_model.specs.Heap.{due}
use Rattle.heap_core.specs.Table.{IsTable, blocks_of, is_marked, is_occupied, kept_lengths}
use Rattle.heap_core.proofs.KeptLaws.{lies_in-blocks_of}

-- The blocks that are due are those that the table has as held.
pub due-heap_state : (base : ℕ) (lengths : List ℕ) (marks lates : List Bool) (is_open : Bool) → due (heap_state base lengths marks lates is_open) ≡ blocks_of is_marked base 0 lengths marks
unfolding due
due-heap_state base lengths marks lates true = refl
due-heap_state base lengths marks lates false = refl

-- Painted granules are the shadow of the heap.
pub IsShadow-painted : {base : ℕ} {lengths : List ℕ} {marks : List Bool} (lates : List Bool) {is_open : Bool} {shadow : List Bool} → IsTable base lengths marks → length shadow ≡ length lengths
    → ((k : ℕ) → k < length lengths → get_or shadow k false ≡ is_occupied k (kept_lengths is_marked lengths marks))
    → IsShadow (heap_state base lengths marks lates is_open) shadow
IsShadow-painted {base} {lengths} {marks} lates {is_open} table long painted = record {
  granules = ap (λ n. 16 * n) long;
  painted = λ a from before.
      let inside : (a - base) / 16 < length lengths = omega arith in
      painted ((a - base) / 16) inside
      ∙ sym (ap (λ (blocks : List Span). lies_in blocks a) (due-heap_state base lengths marks lates is_open)
      ∙ lies_in-blocks_of is_marked base a ((a - base) / 16) lengths marks table.same (omega arith) (omega arith) inside);
}
