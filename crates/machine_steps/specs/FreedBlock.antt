-- A block that goes from live to held keeps a state safe.
use Rattle.std.proofs.Common.{◌≡◌, ◌∙◌, ◌-◌, ℕ, Bool, true, false, cond, not, inl, inr, List, [], ◌∷◌, refl, sym, ap, subst, arith}
use Rattle.std.specs.Prelude.{All, filter}
use Rattle.std.specs.List.{Contains}
use Rattle.std.proofs.lemmas.Bool.{cases_Bool, false_from_ne_true}
use Rattle.std.proofs.lemmas.List.Elements.{All-contains}
use Rattle.heap_model.specs.Blocks.{IsApart, Span, blocks_with, has_bounds, is_block}
use Rattle.heap_model.specs.Heap.{HeapState, IsInside, IsSound as IsSoundHeap}
use Rattle.heap_model.specs.Laws.{Contains-block, the_block}
use Rattle.heap_model.specs.Quarantine.{freed_of, is_held_block, with_waiting}
use Rattle.heap_model.specs.declared.block.Freed.TheVariants as TheFreed
use Rattle.trace_text.specs.declared.trace.Command.TheVariants.{Free}
use Rattle.machine_steps.specs.Safety.{IsLiveOrHeld, IsSafe}
use Rattle.heap_reply.specs.declared.reply.Reply.TheVariants.{Held}
use Rattle.machine_steps.specs.State.{State, register}
use Rattle.cap_codec.specs.Words.{bounds_in}
use Rattle.machine_steps.specs.Step.{Step}
use Rattle.machine_steps.specs.BlockLists.{Contains-later, Contains-cases, Contains-new, Contains-still}
use Rattle.machine_steps.specs.SoundLaws.{IsSafe-in}

-- ---- bounds

-- No live block is one of others that share no address with it.
no_other : (heap : HeapState) (base top : ℕ) (others : List Span) → IsSoundHeap heap → is_block heap.live base top ≡ true → All (λ b. All (IsApart b) others) heap.live
    → is_block others base top ≡ false
no_other heap base top others sound live all =
    false_from_ne_true (is_block others base top)
    (λ held.
    let block : Span = (base, top - base) in
    let in_live = Contains-block base top heap.live live in
    let inside = All-contains (IsInside heap) heap.live block sound.live_inside in_live in
    let apart = All-contains (λ b. All (IsApart b) others) heap.live block all in_live in
    elim (All-contains (IsApart block) others block apart (Contains-block base top others held)) [
      | inl before ↦ omega (arith, before, inside.some)
      | inr after ↦ omega (arith, after, inside.some)
    ])

-- No block is live and held.
pub one_of_both : (heap : HeapState) (base top : ℕ) → IsSoundHeap heap → is_block heap.live base top ≡ true → is_held_block heap base top ≡ false
one_of_both heap base top sound live =
    rw (no_other heap base top heap.waiting sound live sound.apart_waiting, no_other heap base top heap.painted sound live sound.apart_painted) refl

-- ---- the blocks

Contains-filter : (test : Span → Bool) (blocks : List Span) (block : Span) → test block ≡ true → Contains blocks block → Contains (filter test blocks) block
Contains-filter test [] block passes h = h
Contains-filter test (b ∷ blocks) block passes h =
    elim (Contains-cases b blocks block h) [
      | inl same ↦ (let here : test b ≡ true = ap test same ∙ passes in rw here (0, omega arith, same))
      | inr later ↦
          let rest = Contains-filter test blocks block passes later in
          elim (cases_Bool (test b)) [
            | inl is ↦ rw is (Contains-later b (filter test blocks) block rest)
            | inr is ↦ rw is rest
          ]
    ]

-- Each block is one still.
still_there : (heap : HeapState) (base top : ℕ) (block : Span) → IsLiveOrHeld heap block → IsLiveOrHeld (with_waiting heap base top) block
still_there heap base top block (inr (inl waits)) = inr (inl (Contains-still (base, top - base) heap.waiting block waits))
still_there heap base top block (inr (inr painted)) = inr (inr painted)
still_there heap base top block (inl live) =
    elim (cases_Bool (has_bounds base top block)) [
      | inl is ↦
          let same = the_block base top block is in
          inr (inl (subst (Contains (blocks_with (base, top - base) heap.waiting)) (sym same) (Contains-new (base, top - base) heap.waiting)))
      | inr other ↦ inl (Contains-filter (λ b. not (has_bounds base top b)) heap.live block (ap not other) live)
    ]

-- ---- the state

pub IsSafe-waiting : (s : State) (base top : ℕ) → IsSafe s → IsSoundHeap (with_waiting s.heap base top) → IsSafe (record s { heap = with_waiting s.heap base top })
IsSafe-waiting s base top safe sound = IsSafe-in s (with_waiting s.heap base top) sound (still_there s.heap base top) safe

-- ---- the step

-- What is held was a live block.
was_live : (heap : HeapState) (base top : ℕ) → freed_of heap base top ≡ TheFreed.Held → is_block heap.live base top ≡ true
was_live heap base top held = go (is_block heap.live base top) (is_held_block heap base top) held where
  go : (live other : Bool) → (cond live TheFreed.Held (cond other TheFreed.AlreadyHeld TheFreed.NotBlock)) ≡ TheFreed.Held → live ≡ true
  go true other e = refl
  go false true e = absurd cc
  go false false e = absurd cc

pub Step-free : (s : State) (rs : ℕ) (heap : HeapState) → IsSoundHeap s.heap → (register s rs).1 ≡ true
    → freed_of s.heap (bounds_in (register s rs).0).base (bounds_in (register s rs).0).top ≡ TheFreed.Held
    → heap ≡ with_waiting s.heap (bounds_in (register s rs).0).base (bounds_in (register s rs).0).top
    → Step s (Free rs) (Held ((bounds_in (register s rs).0).top - (bounds_in (register s rs).0).base)) (record s { heap = heap })
Step-free s rs heap sound tagged held same =
    let bounds = bounds_in (register s rs).0 in
    let live = was_live s.heap bounds.base bounds.top held in
    let other = one_of_both s.heap bounds.base bounds.top sound live in
    rw (tagged, other, live) (refl, ap (λ (h : HeapState). record s { heap = h }) same)
