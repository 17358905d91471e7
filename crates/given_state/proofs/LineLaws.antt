-- One line more.
use Rattle.std.proofs.Common.{◌≡◌, ◌∙◌, ◌<◌, ◌+◌, ℕ, suc, List, [], ◌∷◌, ◌++◌, ap, drop, get_or, length, take, sym, subst}
use Rattle.std.specs.Prelude.{fold}
use Rattle.std.proofs.Math.Seq.{split_at}
use Rattle.std.proofs.lemmas.List.{take_more}
use Rattle.std.proofs.lemmas.List.Sums.{fold_more}
use Rattle.heap_model.specs.Heap.{HeapState}
use Rattle.heap_model.specs.declared.block.Obstacle.{Obstacle}
use Rattle.log_text.specs.declared.log.Given.{Given}
use Rattle.given_state.specs.declared.fault.Lack.{Lack}
use Rattle.given_state.specs.Given.{LacksHold, LacksHoldFirst, LacksPlace, LacksPlaceFirst, MayAllHold, MayAllLie, MayLie, all_claimed, block_in, with_claimed}

-- What the lines so far make, and the next one of it.
pub fold_next : {X Y : Type 0} (f : Y → X → Y) (a : Y) (xs : List X) (i : ℕ) (none : X) (now new : Y) → i < length xs → now ≡ fold f a (take i xs)
    → new ≡ f now (get_or xs i none) → new ≡ fold f a (take (i + 1) xs)
fold_next f a xs i none now new here is step = step ∙ (ap (λ y. f y (get_or xs i none)) is ∙ sym (fold_more f a xs i none here))

MayAllLie-push : (s : HeapState) (lines : List (ℕ × Given)) (line : ℕ × Given) → MayAllLie s lines → MayLie (all_claimed s lines) (block_in line.1)
    → MayAllLie s (lines ++ line ∷ [])
MayAllLie-push s [] line may next = (next, tt)
MayAllLie-push s (first ∷ lines) line may next = (may.0, MayAllLie-push (with_claimed s (block_in first.1)) lines line may.1 next)

pub MayAllLie-more : (s : HeapState) (lines : List (ℕ × Given)) (i : ℕ) (none : ℕ × Given) (now : HeapState) → i < length lines → MayAllLie s (take i lines)
    → now ≡ all_claimed s (take i lines) → MayLie now (block_in (get_or lines i none).1) → MayAllLie s (take (i + 1) lines)
MayAllLie-more s lines i none now here may is next =
    subst (MayAllLie s) (sym (take_more lines i none here)) (
    MayAllLie-push s (take i lines) (get_or lines i none) may (subst (λ (h : HeapState). MayLie h (block_in (get_or lines i none).1)) is next)
    )

pub LacksPlaceFirst-at : (s : HeapState) (lines : List (ℕ × Given)) (i : ℕ) (none : ℕ × Given) (now : HeapState) (reason : Obstacle) → i < length lines → MayAllLie s (take i lines)
    → now ≡ all_claimed s (take i lines) → LacksPlace now (block_in (get_or lines i none).1) reason → LacksPlaceFirst s lines (get_or lines i none).0 reason
LacksPlaceFirst-at s lines i none now reason here may is lacks = record {
  before = take i lines;
  given = (get_or lines i none).1;
  after = drop (suc i) lines;
  parts = split_at lines i none here;
  may = may;
  lacks = subst (λ (h : HeapState). LacksPlace h (block_in (get_or lines i none).1) reason) is lacks;
}

pub LacksHoldFirst-at : (s : HeapState) (lines : List (ℕ × Given)) (i : ℕ) (none : ℕ × Given) (lack : Lack) → i < length lines → MayAllHold s (take i lines)
    → LacksHold s (get_or lines i none).1 lack → LacksHoldFirst s lines (get_or lines i none).0 lack
LacksHoldFirst-at s lines i none lack here may lacks = record {
  before = take i lines;
  given = (get_or lines i none).1;
  after = drop (suc i) lines;
  parts = split_at lines i none here;
  may = may;
  lacks = lacks;
}
