-- The given heap: how it is made, where it lies, and whether an epoch is open in it.
use Rattle.std.proofs.Common.{◌≡◌, ◌∙◌, ℕ, Bool, true, false, List, [], ◌∷◌, Option, None, Some, if◌then◌else◌, refl, ap}
use Rattle.std.specs.List.{list_any}
use Rattle.heap_model.specs.Heap.{HeapState, empty_heap}
use Rattle.heap_model.specs.Quarantine.{with_epoch}
use Rattle.heap_model.specs.declared.block.Kind.{Kind}
use Rattle.heap_model.specs.declared.block.Kind.TheVariants as kind
use Rattle.log_text.specs.declared.log.Given.{Given}
use Rattle.given_state.specs.Given.{all_claimed, all_released, block_in, block_of_kind, given_heap, gives_epoch, with_claimed, with_epoch_given, with_released}

-- It is made step by step.
pub given_heap-made : (base pages : ℕ) (lines : List (ℕ × Given)) (first claimed painted opened last : HeapState) → first ≡ empty_heap base pages
    → claimed ≡ all_claimed first lines → painted ≡ all_released kind.Painted claimed lines → opened ≡ with_epoch_given painted lines
    → last ≡ all_released kind.Waiting opened lines → last ≡ given_heap base pages lines
unfolding given_heap
given_heap-made base pages lines first claimed painted opened last new claims paints opens waits =
    waits ∙ ap (λ (h : HeapState). all_released kind.Waiting h lines) (
    opens ∙ ap (λ (h : HeapState). with_epoch_given h lines) (
    paints ∙ ap (λ (h : HeapState). all_released kind.Painted h lines) (
    claims ∙ ap (λ (h : HeapState). all_claimed h lines) new)))

-- Both heaps lie at one place.
pub record LieAtOne (s t : HeapState) : Type 0 where
  pub base : s.base ≡ t.base
  pub size : s.size ≡ t.size

one_place : (s t u : HeapState) → LieAtOne s t → LieAtOne t u → LieAtOne s u
one_place s t u p q = record { base = p.base ∙ q.base; size = p.size ∙ q.size }

LieAtOne-claimed : (s : HeapState) (o : Option (ℕ × ℕ)) → LieAtOne (with_claimed s o) s
LieAtOne-claimed s None = record { base = refl; size = refl }
LieAtOne-claimed s (Some b) = record { base = refl; size = refl }

LieAtOne-released : (s : HeapState) (o : Option (ℕ × ℕ)) → LieAtOne (with_released s o) s
LieAtOne-released s None = record { base = refl; size = refl }
LieAtOne-released s (Some b) = record { base = refl; size = refl }

LieAtOne-all_claimed : (s : HeapState) (lines : List (ℕ × Given)) → LieAtOne (all_claimed s lines) s
LieAtOne-all_claimed s [] = record { base = refl; size = refl }
LieAtOne-all_claimed s (line ∷ lines) =
    let next = with_claimed s (block_in line.1) in
    one_place (all_claimed next lines) next s (LieAtOne-all_claimed next lines) (LieAtOne-claimed s (block_in line.1))

LieAtOne-all_released : (one : Kind) (s : HeapState) (lines : List (ℕ × Given)) → LieAtOne (all_released one s lines) s
LieAtOne-all_released one s [] = record { base = refl; size = refl }
LieAtOne-all_released one s (line ∷ lines) =
    let next = with_released s (block_of_kind one line.1) in
    one_place (all_released one next lines) next s (LieAtOne-all_released one next lines) (LieAtOne-released s (block_of_kind one line.1))

LieAtOne-told : (told : Bool) (s : HeapState) → LieAtOne (if told then with_epoch s else s) s
LieAtOne-told true s = record { base = refl; size = refl }
LieAtOne-told false s = record { base = refl; size = refl }

pub LieAtOne-given : (base pages : ℕ) (lines : List (ℕ × Given)) → LieAtOne (given_heap base pages lines) (empty_heap base pages)
unfolding given_heap
LieAtOne-given base pages lines =
    let first = empty_heap base pages in
    let claimed = all_claimed first lines in
    let painted = all_released kind.Painted claimed lines in
    let opened = with_epoch_given painted lines in
    one_place (all_released kind.Waiting opened lines) opened first (LieAtOne-all_released kind.Waiting opened lines) (
    one_place opened painted first (LieAtOne-told (list_any (λ line. gives_epoch line.1) lines) painted) (
    one_place painted claimed first (LieAtOne-all_released kind.Painted claimed lines) (LieAtOne-all_claimed first lines)))

-- ---- whether an epoch is open

open-claimed : (s : HeapState) (o : Option (ℕ × ℕ)) → (with_claimed s o).is_open ≡ s.is_open
open-claimed s None = refl
open-claimed s (Some b) = refl

open-released : (s : HeapState) (o : Option (ℕ × ℕ)) → (with_released s o).is_open ≡ s.is_open
open-released s None = refl
open-released s (Some b) = refl

open-all_claimed : (s : HeapState) (lines : List (ℕ × Given)) → (all_claimed s lines).is_open ≡ s.is_open
open-all_claimed s [] = refl
open-all_claimed s (line ∷ lines) = open-all_claimed (with_claimed s (block_in line.1)) lines ∙ open-claimed s (block_in line.1)

open-all_released : (one : Kind) (s : HeapState) (lines : List (ℕ × Given)) → (all_released one s lines).is_open ≡ s.is_open
open-all_released one s [] = refl
open-all_released one s (line ∷ lines) =
    open-all_released one (with_released s (block_of_kind one line.1)) lines ∙ open-released s (block_of_kind one line.1)

-- None is before one begins.
pub closed_before : (first claimed painted : HeapState) (lines : List (ℕ × Given)) → first.is_open ≡ false → claimed ≡ all_claimed first lines
    → painted ≡ all_released kind.Painted claimed lines → painted.is_open ≡ false
closed_before first claimed painted lines closed claims paints =
    ap (λ (h : HeapState). h.is_open) paints ∙ (open-all_released kind.Painted claimed lines
    ∙ (ap (λ (h : HeapState). h.is_open) claims ∙ (open-all_claimed first lines ∙ closed)))
