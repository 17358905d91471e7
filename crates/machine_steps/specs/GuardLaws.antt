-- Guarded granules: each tagged word's bounds lie in one block.
use Rattle.std.proofs.Common.{◌≡◌, ◌<◌, ◌≤◌, ◌+◌, ℕ, Bool, false, inl, inr, subst, sym, arith}
use Rattle.std.specs.Prelude.{IsTrue}
use Rattle.std.proofs.lemmas.List.Elements.{All-contains}
use Rattle.cap_codec.specs.declared.word.Bounds.{Bounds}
use Rattle.cap_codec.specs.declared.word.Word.{Word}
use Rattle.heap_model.specs.Blocks.{Span}
use Rattle.heap_model.specs.Heap.{HeapState, IsInside, IsSound as IsSoundHeap}
use Rattle.tag_memory.specs.Cells.{Cell}
use Rattle.machine_steps.specs.Safety.{IsGuarded, IsLiveOrHeld, LieIn}
use Rattle.cap_codec.specs.Words.{bounds_in}

pub IsGuarded-untagged : (heap : HeapState) (w : Word) → IsGuarded heap (w, false)
IsGuarded-untagged heap w = record { within = λ e. absurd cc }

-- A word whose bounds are those of another, and which is tagged only where that is.
pub IsGuarded-kept : (heap : HeapState) (w : Word) (t : Bool) (c : Cell) → IsGuarded heap c → (IsTrue t → IsTrue c.1) → (IsTrue t → bounds_in w ≡ bounds_in c.0) → IsGuarded heap (w, t)
IsGuarded-kept heap w t c guarded tagged same = record {
  within = λ e. let x = guarded.within (tagged e) in (x.0, x.1, subst (λ (b : Bounds). LieIn b x.0) (sym (same e)) x.2);
}

-- A word whose bounds are narrower than those of a tagged one.
pub IsGuarded-narrowed : (heap : HeapState) (w : Word) (t : Bool) (c : Cell) (low high : ℕ) → IsGuarded heap c → IsTrue c.1
    → bounds_in w ≡ record { base = low; top = high } → (bounds_in c.0).base ≤ low → low < high → high ≤ (bounds_in c.0).top → IsGuarded heap (w, t)
IsGuarded-narrowed heap w t c low high guarded tagged is from some end =
    let x = guarded.within tagged in
    let narrower : LieIn (record { base = low; top = high }) x.0 = record { start = omega (arith, x.2.start, from); some = some; end = omega (arith, x.2.end, end) } in
    record { within = λ _. (x.0, x.1, subst (λ (b : Bounds). LieIn b x.0) (sym is) narrower) }

-- A cell stays guarded where each block is one still.
pub IsGuarded-in : (old new : HeapState) (c : Cell) → ((block : Span) → IsLiveOrHeld old block → IsLiveOrHeld new block) → IsGuarded old c → IsGuarded new c
IsGuarded-in old new c still guarded = record { within = λ e. let x = guarded.within e in (x.0, still x.0 x.1, x.2) }

-- ---- what accesses need

-- A block of a heap lies inside it.
pub IsInside-block : (heap : HeapState) (block : Span) → IsSoundHeap heap → IsLiveOrHeld heap block → IsInside heap block
IsInside-block heap block sound (inl live) = All-contains (IsInside heap) heap.live block sound.live_inside live
IsInside-block heap block sound (inr (inl waits)) = All-contains (IsInside heap) heap.waiting block sound.waiting_inside waits
IsInside-block heap block sound (inr (inr painted)) = All-contains (IsInside heap) heap.painted block sound.painted_inside painted

-- Where it is tagged, its bounds lie inside the `size` addresses from `base` on.
pub record LiesInside (base size : ℕ) (c : Cell) : Type 0 where
  pub from : IsTrue c.1 → base ≤ (bounds_in c.0).base
  pub end : IsTrue c.1 → (bounds_in c.0).top ≤ base + size

pub LiesInside-guarded : (heap : HeapState) (c : Cell) → IsSoundHeap heap → IsGuarded heap c → LiesInside heap.base heap.size c
LiesInside-guarded heap c sound guarded =
    record {
      from = λ e. let x = guarded.within e in let inside = IsInside-block heap x.0 sound x.1 in omega (arith, inside.from, x.2.start);
      end = λ e. let x = guarded.within e in let inside = IsInside-block heap x.0 sound x.1 in omega (arith, inside.end, x.2.end);
    }
