-- The blocks that wait or are painted after a command.
use Rattle.std.proofs.Common.{◌≡◌, ◌∙◌, ◌-◌, ℕ, Bool, true, false, if◌then◌else◌, Option, List, [], ◌∷◌, ◌++◌, refl, sym, ap, subst}
use Rattle.std.specs.List.Sorted.{IsPermutation}
use Rattle.std.proofs.lemmas.List.Sorted.{IsPermutation-append_left, IsPermutation-refl, IsPermutation-trans}
use Rattle.heap_model.specs.Blocks.{Span}
use Rattle.heap_model.specs.Heap.{HeapState, IsSound}
use Rattle.heap_model.specs.Laws.{without_due-closed, without_due-open}
use Rattle.heap_model.specs.Quarantine.{without_due}
use Rattle.machine_steps.specs.State.{State}
use Rattle.heap_reply.specs.declared.reply.Reply.{Reply}
use Rattle.heap_reply.specs.declared.reply.Reply.TheVariants.{Block, BlockAfter, NoSpace, NoSpaceAfter, Held, Done, Cleared, Swept, Begun, Shown, Trap}
use Rattle.state_data.specs.States.{tells_pass}
use Rattle.state_data.specs.Recording.{open_after, painted_after, waiting_after}
use Rattle.state_data.proofs.Did.{Did, IsFreeing, IsQuiet}
use Rattle.data_tokens.specs.ListedBlocks.{last-with}
use Rattle.state_data.proofs.Did.Did.{quiet, wrote, handed_out, gave_up, freed, freed_and_handed_out, began}

as_it_is : {these those : List Span} → these ≡ those → IsPermutation these those
as_it_is {these} is = subst (IsPermutation these) is (IsPermutation-refl these)

-- They are those of the new heap, which has those that wait by their starts.
pub record AreAfter (s : State) (start : ℕ) (r : Reply) (new : State) : Type 0 where
  pub waiting : IsPermutation (waiting_after r s.heap.is_open s.heap.waiting start) new.heap.waiting
  pub painted : painted_after r s.heap.waiting s.heap.painted ≡ new.heap.painted
  pub is_open : open_after r s.heap.is_open ≡ new.heap.is_open

quiet_after : (s : State) (start : ℕ) (r : Reply) (new : State) → IsQuiet r → new.heap ≡ s.heap → AreAfter s start r new
quiet_after s start r new is heap = record {
  waiting = as_it_is (is.waiting s.heap.is_open s.heap.waiting start ∙ ap (λ (h : HeapState). h.waiting) (sym heap));
  painted = is.painted s.heap.waiting s.heap.painted ∙ ap (λ (h : HeapState). h.painted) (sym heap);
  is_open = is.is_open s.heap.is_open ∙ ap (λ (h : HeapState). h.is_open) (sym heap);
}

freed_after : (is_open : Bool) (s : State) (start : ℕ) (r : Reply) (new : State) → IsSound s.heap → s.heap.is_open ≡ is_open → IsFreeing r → new.heap ≡ without_due s.heap → AreAfter s start r new
freed_after true s start r new sound opened is heap =
    let free = heap ∙ without_due-open s.heap opened in
    record {
      waiting = as_it_is (is.waiting s.heap.is_open s.heap.waiting start ∙ (ap (λ (b : Bool). if b then s.heap.waiting else []) opened ∙ ap (λ (h : HeapState). h.waiting) (sym free)));
      painted = is.painted s.heap.waiting s.heap.painted ∙ ap (λ (h : HeapState). h.painted) (sym free);
      is_open = is.is_open s.heap.is_open ∙ ap (λ (h : HeapState). h.is_open) (sym free);
    }
freed_after false s start r new sound closed is heap =
    let free = heap ∙ without_due-closed s.heap closed in
    record {
      waiting = as_it_is (is.waiting s.heap.is_open s.heap.waiting start ∙ (ap (λ (b : Bool). if b then s.heap.waiting else []) closed ∙ ap (λ (h : HeapState). h.waiting) (sym free)));
      painted = is.painted s.heap.waiting s.heap.painted ∙ (sym (sound.closed closed) ∙ ap (λ (h : HeapState). h.painted) (sym free));
      is_open = is.is_open s.heap.is_open ∙ (sym closed ∙ ap (λ (h : HeapState). h.is_open) (sym free));
    }

pub are_after : (s : State) (w : Option ℕ) (start : ℕ) (r : Reply) (new : State) → Did s w start r new → IsSound s.heap → AreAfter s start r new
are_after s w start r new (quiet is granules heap) sound = quiet_after s start r new is heap
are_after s w start r new (wrote i is_i is heap count elsewhere) sound = quiet_after s start r new is heap
are_after s w start r new (handed_out size base top none is place end granules heap) sound = record {
  waiting = as_it_is (ap (λ (reply : Reply). waiting_after reply s.heap.is_open s.heap.waiting start) is ∙ ap (λ (h : HeapState). h.waiting) (sym heap));
  painted = ap (λ (reply : Reply). painted_after reply s.heap.waiting s.heap.painted) is ∙ ap (λ (h : HeapState). h.painted) (sym heap);
  is_open = ap (λ (reply : Reply). open_after reply s.heap.is_open) is ∙ ap (λ (h : HeapState). h.is_open) (sym heap);
}
are_after s w start r new (gave_up base top none at is block granules heap) sound = record {
  waiting = IsPermutation-trans _ _ _ (as_it_is (ap (λ (reply : Reply). waiting_after reply s.heap.is_open s.heap.waiting start) is ∙ (λ i. s.heap.waiting ++ (at i, top - base) ∷ [])))
      (IsPermutation-trans _ _ _ (last-with (base, top - base) s.heap.waiting) (as_it_is (ap (λ (h : HeapState). h.waiting) (sym heap))));
  painted = ap (λ (reply : Reply). painted_after reply s.heap.waiting s.heap.painted) is ∙ ap (λ (h : HeapState). h.painted) (sym heap);
  is_open = ap (λ (reply : Reply). open_after reply s.heap.is_open) is ∙ ap (λ (h : HeapState). h.is_open) (sym heap);
}
are_after s w start r new (freed none is tags granules heap) sound = freed_after s.heap.is_open s start r new sound refl is heap
are_after s w start r new (freed_and_handed_out size base top cleared none is tags closed place end granules heap) sound = record {
  waiting = as_it_is (ap (λ (reply : Reply). waiting_after reply s.heap.is_open s.heap.waiting start) is ∙ (ap (λ (b : Bool). if b then s.heap.waiting else []) closed ∙ ap (λ (h : HeapState). h.waiting) (sym heap)));
  painted = ap (λ (reply : Reply). painted_after reply s.heap.waiting s.heap.painted) is ∙ (sym (sound.closed closed) ∙ ap (λ (h : HeapState). h.painted) (sym heap));
  is_open = ap (λ (reply : Reply). open_after reply s.heap.is_open) is ∙ (sym closed ∙ ap (λ (h : HeapState). h.is_open) (sym heap));
}
are_after s w start r new (began cleared none is tags closed granules heap) sound = record {
  waiting = as_it_is (ap (λ (reply : Reply). waiting_after reply s.heap.is_open s.heap.waiting start) is ∙ ap (λ (h : HeapState). h.waiting) (sym heap));
  painted = ap (λ (reply : Reply). painted_after reply s.heap.waiting s.heap.painted) is ∙ ap (λ (h : HeapState). h.painted) (sym heap);
  is_open = ap (λ (reply : Reply). open_after reply s.heap.is_open) is ∙ ap (λ (h : HeapState). h.is_open) (sym heap);
}

-- ---- blocks in another order

kept_if : (is_open : Bool) (these those : List Span) → IsPermutation these those → IsPermutation (if is_open then these else []) (if is_open then those else [])
kept_if true these those same = same
kept_if false these those same = IsPermutation-refl []

-- The same blocks wait, whatever their order was.
pub waiting_after-kept : (r : Reply) (is_open : Bool) (these those : List Span) (start : ℕ) → IsPermutation these those → IsPermutation (waiting_after r is_open these start) (waiting_after r is_open those start)
waiting_after-kept (Block base top) is_open these those start same = same
waiting_after-kept (BlockAfter base top cleared) is_open these those start same = kept_if is_open these those same
waiting_after-kept NoSpace is_open these those start same = same
waiting_after-kept (NoSpaceAfter cleared) is_open these those start same = kept_if is_open these those same
waiting_after-kept (Held bytes) is_open these those start same = IsPermutation-append_left ((start, bytes) ∷ []) these those same
waiting_after-kept Done is_open these those start same = same
waiting_after-kept Cleared is_open these those start same = same
waiting_after-kept (Swept cleared released) is_open these those start same = kept_if is_open these those same
waiting_after-kept (Begun cleared) is_open these those start same = IsPermutation-refl []
waiting_after-kept (Shown shown) is_open these those start same = same
waiting_after-kept (Trap trap) is_open these those start same = same

-- The blocks that waited are painted only where the reply tells of a pass.
pub painted_after-same : (r : Reply) (these those painted : List Span) → (tells_pass r ≡ true → these ≡ those) → painted_after r these painted ≡ painted_after r those painted
painted_after-same (Block base top) these those painted same = refl
painted_after-same (BlockAfter base top cleared) these those painted same = refl
painted_after-same NoSpace these those painted same = refl
painted_after-same (NoSpaceAfter cleared) these those painted same = refl
painted_after-same (Held bytes) these those painted same = refl
painted_after-same Done these those painted same = refl
painted_after-same Cleared these those painted same = refl
painted_after-same (Swept cleared released) these those painted same = refl
painted_after-same (Begun cleared) these those painted same = same refl
painted_after-same (Shown shown) these those painted same = refl
painted_after-same (Trap trap) these those painted same = refl
