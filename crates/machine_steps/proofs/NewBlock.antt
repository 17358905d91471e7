-- One more live block, and its capability, keep a state safe.
use Rattle.std.proofs.Common.{◌≡◌, ◌<◌, ◌+◌, ◌-◌, ℕ, true, inl, inr, subst, sym, arith}
use Rattle.cap_codec.specs.declared.word.Bounds.{Bounds}
use Rattle.cap_codec.specs.declared.word.Word.{Word}
use Rattle.heap_model.specs.Blocks.{Span, end_of, start_of}
use Rattle.heap_model.specs.Heap.{HeapState, IsSound as IsSoundHeap}
use Rattle.heap_model.specs.Place.{with_block}
use Rattle.machine_steps.specs.Safety.{IsGuarded, IsLiveOrHeld, IsSafe, LieIn}
use Rattle.machine_steps.specs.State.{State, with_register}
use Rattle.cap_codec.specs.Words.{bounds_in}
use Rattle.machine_steps.specs.BlockLists.{Contains-new, Contains-still}
use Rattle.machine_steps.specs.SoundLaws.{IsSafe-in, IsSafe-with}

-- ---- granules

-- A word whose bounds are those of a block.
IsGuarded-block : (heap : HeapState) (w : Word) (block : Span) → IsLiveOrHeld heap block → start_of block < end_of block
    → bounds_in w ≡ record { base = start_of block; top = end_of block } → IsGuarded heap (w, true)
IsGuarded-block heap w block there some is =
    let whole : LieIn (record { base = start_of block; top = end_of block }) block = record { start = omega arith; some = some; end = omega arith } in
    record { within = λ _. (block, there, subst (λ (b : Bounds). LieIn b block) (sym is) whole) }

-- ---- states

still_there : (heap : HeapState) (a length : ℕ) (block : Span) → IsLiveOrHeld heap block → IsLiveOrHeld (with_block heap a length) block
still_there heap a length block (inl live) = inl (Contains-still (a, length) heap.live block live)
still_there heap a length block (inr held) = inr held

-- The block may be handed out by the word that has its bounds.
pub IsSafe-new : (s : State) (rd base top : ℕ) (w : Word) → IsSafe s → base < top → IsSoundHeap (with_block s.heap base (top - base))
    → bounds_in w ≡ record { base = base; top = top } → IsSafe (record (with_register s rd (w, true)) { heap = with_block s.heap base (top - base) })
IsSafe-new s rd base top w safe order sound is =
    let block : Span = (base, top - base) in
    let new = with_block s.heap base (top - base) in
    let there : IsLiveOrHeld new block = inl (Contains-new block s.heap.live) in
    let end : top ≡ base + (top - base) = omega (arith, order) in
    let bounds : bounds_in w ≡ record { base = base; top = base + (top - base) } = subst (λ (t : ℕ). bounds_in w ≡ record { base = base; top = t }) end is in
    IsSafe-with (record s { heap = new }) rd (w, true) (IsSafe-in s new sound (still_there s.heap base (top - base)) safe) (IsGuarded-block new w block there (omega (arith, order)) bounds)
