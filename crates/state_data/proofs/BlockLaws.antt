-- What is told of blocks is what changed of them.
use Rattle.std.proofs.Common.{◌≡◌, ◌∙◌, ◌<◌, ◌+◌, ◌-◌, ◌||◌, ◌++◌, ℕ, Bool, true, false, get_or, nat_lt, not, inl, inr, All, List, [], ◌∷◌, Option, append-nil, codes, filter, refl, sym, ap, subst, arith}
use Rattle.std.proofs.Math.Bool.{or-true}
use Rattle.std.proofs.lemmas.Bool.{cases_Bool, eq-eqb, true≢false}
use Rattle.std.proofs.lemmas.List.Folds.{Any-from_list_any}
use Rattle.std.proofs.lemmas.List.Concat.{flat_map-cons}
use Rattle.std.proofs.lemmas.List.Elements.{All-contains, All-head, All-tail, All-weaker, filter-append}
use Rattle.heap_model.specs.Blocks.{IsApart, Span, blocks_with, blocks_without, end_of, has_bounds, is_block, length_of, start_of}
use Rattle.heap_model.specs.Heap.{HeapState, IsInside, IsSound, due}
use Rattle.heap_model.specs.Laws.{Contains-block, due-closed, due-open, has_bounds-is, without_due-closed, without_due-open}
use Rattle.heap_model.specs.Place.{IsPlace, block_length, with_live}
use Rattle.heap_model.specs.Quarantine.{with_epoch, with_waiting, without_due, without_epoch, without_waiting}
use Rattle.machine_steps.specs.State.{State}
use Rattle.heap_reply.specs.declared.reply.Reply.{Reply}
use Rattle.heap_reply.specs.declared.reply.Reply.TheVariants.{Block, BlockAfter, NoSpace, NoSpaceAfter, Held, Done, Cleared, Swept, Begun, Shown, Trap}
use Rattle.json.specs.Token.{Token}
use Rattle.data_tokens.specs.Blocks.{block_tokens, blocks_tokens, come_in, ended_in, has_block, is_known, named_blocks_tokens}
use Rattle.state_data.specs.States.{tells_pass}
use Rattle.state_data.specs.Recording.{changed_blocks_tokens}
use Rattle.state_data.proofs.Did.{Did}
use Rattle.state_data.proofs.Did.Did.{quiet, wrote, handed_out, gave_up, freed, freed_and_handed_out, began}
use Rattle.data_tokens.specs.ListedBlocks.{all_has, all_without, apart_none, come_all, come_itself, come_none, come_one, filter-all, filter-none, filter-same, has_with, has_with-more, has_without}

-- Of one block.
pub told_one : (state : List ℕ) (block : Span) → named_blocks_tokens state (block ∷ []) ≡ block_tokens state block
told_one state block = flat_map-cons (block_tokens state) block [] ∙ append-nil (block_tokens state block)

-- ---- which blocks a heap knows

known_live : (heap : HeapState) (b : Span) → has_block heap.live b ≡ true → is_known heap b ≡ true
known_live heap b is = ap (λ t. t || (has_block heap.waiting b || has_block heap.painted b)) is

known_waiting : (heap : HeapState) (b : Span) → has_block heap.waiting b ≡ true → is_known heap b ≡ true
known_waiting heap b is = ap (λ t. has_block heap.live b || (t || has_block heap.painted b)) is ∙ or-true (has_block heap.live b)

known_painted : (heap : HeapState) (b : Span) → has_block heap.painted b ≡ true → is_known heap b ≡ true
known_painted heap b is = ap (λ t. has_block heap.live b || (has_block heap.waiting b || t)) is ∙ (ap (λ t. has_block heap.live b || t) (or-true (has_block heap.waiting b)) ∙ or-true (has_block heap.live b))

-- The old blocks of one kind that the new heap doesn't know.
abbrev ended : HeapState → List Span → List Span
ended new blocks = filter (λ b. not (is_known new b)) blocks

ended_known : (new : HeapState) (blocks : List Span) → All (λ b. is_known new b ≡ true) blocks → ended new blocks ≡ []
ended_known new blocks all = filter-none (λ b. not (is_known new b)) blocks (All-weaker (λ b. is_known new b ≡ true) (λ b. not (is_known new b) ≡ false) (λ b is. ap not is) blocks all)

ended_parts : (old new : HeapState) (live waiting painted : List Span) → ended new old.live ≡ live → ended new old.waiting ≡ waiting → ended new old.painted ≡ painted
    → ended_in old new ≡ live ++ (waiting ++ painted)
ended_parts old new live waiting painted of_live of_waiting of_painted =
    let test : Span → Bool = λ b. not (is_known new b) in
    filter-append test old.live (old.waiting ++ old.painted)
    ∙ (λ i. of_live i ++ (filter-append test old.waiting old.painted ∙ (λ j. of_waiting j ++ of_painted j)) i)

-- All that is told of two heaps, by the four lists.
told_parts : (old new : HeapState) (free live waiting painted : List Span) → ended_in old new ≡ free → come_in old.live new.live ≡ live → come_in old.waiting new.waiting ≡ waiting
    → come_in old.painted new.painted ≡ painted
    → blocks_tokens old new ≡ named_blocks_tokens (codes "free") free ++ (named_blocks_tokens (codes "live") live ++ (named_blocks_tokens (codes "waiting") waiting ++ named_blocks_tokens (codes "painted") painted))
told_parts old new free live waiting painted of_free of_live of_waiting of_painted =
    λ i. named_blocks_tokens (codes "free") (of_free i) ++ (named_blocks_tokens (codes "live") (of_live i) ++ (named_blocks_tokens (codes "waiting") (of_waiting i) ++ named_blocks_tokens (codes "painted") (of_painted i)))

-- ---- one case after the other

same_heap : (h : HeapState) → blocks_tokens h h ≡ []
same_heap h =
    told_parts h h [] [] [] []
    (ended_parts h h [] [] [] (ended_known h h.live (All-weaker (λ b. has_block h.live b ≡ true) (λ b. is_known h b ≡ true) (known_live h) h.live (all_has h.live)))
    (ended_known h h.waiting (All-weaker (λ b. has_block h.waiting b ≡ true) (λ b. is_known h b ≡ true) (known_waiting h) h.waiting (all_has h.waiting)))
    (ended_known h h.painted (All-weaker (λ b. has_block h.painted b ≡ true) (λ b. is_known h b ≡ true) (known_painted h) h.painted (all_has h.painted))))
    (come_itself h.live) (come_itself h.waiting) (come_itself h.painted)

live_heap : (h : HeapState) (b : Span) → has_block h.live b ≡ false → blocks_tokens h (record h { live = blocks_with b h.live }) ≡ named_blocks_tokens (codes "live") (b ∷ [])
live_heap h b none =
    let new : HeapState = record h { live = blocks_with b h.live } in
    told_parts h new [] (b ∷ []) [] []
    (ended_parts h new [] [] []
    (ended_known new h.live (All-weaker (λ c. has_block h.live c ≡ true) (λ c. is_known new c ≡ true) (λ c is. known_live new c (has_with-more b c h.live is)) h.live (all_has h.live)))
    (ended_known new h.waiting (All-weaker (λ c. has_block h.waiting c ≡ true) (λ c. is_known new c ≡ true) (known_waiting new) h.waiting (all_has h.waiting)))
    (ended_known new h.painted (All-weaker (λ c. has_block h.painted c ≡ true) (λ c. is_known new c ≡ true) (known_painted new) h.painted (all_has h.painted))))
    (come_one b h.live none) (come_itself h.waiting) (come_itself h.painted)
    ∙ append-nil (named_blocks_tokens (codes "live") (b ∷ []))

-- Whatever holds of a list with one block more holds of that block.
of_with : (P : Span → Type 0) (b : Span) (blocks : List Span) → All P (blocks_with b blocks) → P b
of_with P b [] all = All-head P b [] all
of_with P b (x ∷ blocks) all =
    elim (cases_Bool (nat_lt (start_of b) (start_of x))) [
      | inl first ↦ (let more = all in All-head P b (x ∷ blocks) (rw first at more))
      | inr later ↦ (let more = all in of_with P b blocks (All-tail P x (blocks_with b blocks) (rw later at more)))
    ]

-- Blocks apart, the other way round.
apart_turned : (these those : List Span) → All (λ b. All (IsApart b) those) these → All (λ b. All (IsApart b) these) those
apart_turned these those all = λ i d lt j e below. elim (all j e below i d lt) [ inl left ↦ inr left | inr right ↦ inl right ]

-- None of these is among those.
none_of : (these those : List Span) → All (λ b. 0 < length_of b) these → All (λ b. All (IsApart b) those) these → All (λ b. has_block those b ≡ false) these
none_of these those some apart = λ i d lt. apart_none (get_or these i d) those (some i d lt) (apart i d lt)

unknown : (heap : HeapState) (b : Span) → has_block heap.live b ≡ false → has_block heap.waiting b ≡ false → has_block heap.painted b ≡ false → not (is_known heap b) ≡ true
unknown heap b live waiting painted = rw (live, waiting, painted) refl

held_heap : (h : HeapState) (base top : ℕ) → IsSound h → is_block h.live base top ≡ true
    → blocks_tokens h (with_waiting h base top) ≡ named_blocks_tokens (codes "waiting") ((base, top - base) ∷ [])
held_heap h base top sound is =
    let b : Span = (base, top - base) in
    let new = with_waiting h base top in
    let there = Contains-block base top h.live is in
    let found = Any-from_list_any (has_bounds base top) h.live is in
    let bounds = has_bounds-is base top found.1 found.4 in
    let end : base + (top - base) ≡ top = omega (arith, bounds.0, bounds.1) in
    let inside : IsInside h (base, top - base) = All-contains (IsInside h) h.live (base, top - base) sound.live_inside there in
    let apart : All (IsApart (base, top - base)) h.waiting = All-contains (λ c. All (IsApart c) h.waiting) h.live (base, top - base) sound.apart_waiting there in
    let each : (c : Span) → has_block h.live c ≡ true → is_known (with_waiting h base top) c ≡ true =
    λ c has. elim (cases_Bool (has_bounds base top c)) [
      | inl same ↦
          let c_is = has_bounds-is base top c same in
          let b_is : has_bounds (start_of c) (end_of c) (base, top - base) ≡ true = rw (eq-eqb base (start_of c) (sym c_is.0), eq-eqb (base + (top - base)) (end_of c) (end ∙ sym c_is.1)) refl in
          known_waiting new c (has_with b c h.waiting ∙ ap (λ t. t || has_block h.waiting c) b_is)
      | inr other ↦ known_live new c (has_without base top c h.live other has)
    ] in
    told_parts h new [] [] (b ∷ []) []
    (ended_parts h new [] [] []
    (ended_known new h.live (All-weaker (λ c. has_block h.live c ≡ true) (λ c. is_known new c ≡ true) each h.live (all_has h.live)))
    (ended_known new h.waiting (All-weaker (λ c. has_block h.waiting c ≡ true) (λ c. is_known new c ≡ true) (λ c has. known_waiting new c (has_with-more b c h.waiting has)) h.waiting (all_has h.waiting)))
    (ended_known new h.painted (All-weaker (λ c. has_block h.painted c ≡ true) (λ c. is_known new c ≡ true) (known_painted new) h.painted (all_has h.painted))))
    (come_none h.live (blocks_without base top h.live) (all_without (λ c. has_block h.live c ≡ true) base top h.live (all_has h.live)))
    (come_one b h.waiting (apart_none b h.waiting inside.some apart)) (come_itself h.painted)
    ∙ append-nil (named_blocks_tokens (codes "waiting") (b ∷ []))

pub some_bytes : (h : HeapState) (blocks : List Span) → All (IsInside h) blocks → All (λ b. 0 < length_of b) blocks
some_bytes h blocks inside = All-weaker (IsInside h) (λ b. 0 < length_of b) (λ b is. is.some) blocks inside

-- Where nothing is told but what ended.
free_alone : (free : List Span) → named_blocks_tokens (codes "free") free ++ (named_blocks_tokens (codes "live") [] ++ (named_blocks_tokens (codes "waiting") [] ++ named_blocks_tokens (codes "painted") [])) ≡ named_blocks_tokens (codes "free") free
free_alone free = append-nil (named_blocks_tokens (codes "free") free)

-- Waiting blocks are no others, where none is painted.
unknown_waiting : (h new : HeapState) → IsSound h → h.is_open ≡ false → new.live ≡ h.live → new.waiting ≡ [] → new.painted ≡ h.painted
    → All (λ b. not (is_known new b) ≡ true) h.waiting
unknown_waiting h new sound closed live waiting painted =
    let none = none_of h.waiting h.live (some_bytes h h.waiting sound.waiting_inside) (apart_turned h.live h.waiting sound.apart_waiting) in
    All-weaker (λ b. has_block h.live b ≡ false) (λ b. not (is_known new b) ≡ true)
    (λ b not_live. unknown new b (ap (λ (bs : List Span). has_block bs b) live ∙ not_live) (ap (λ (bs : List Span). has_block bs b) waiting) (ap (λ (bs : List Span). has_block bs b) (painted ∙ sound.closed closed)))
    h.waiting none

freed_closed : (h : HeapState) → IsSound h → h.is_open ≡ false → blocks_tokens h (without_waiting h) ≡ named_blocks_tokens (codes "free") h.waiting
freed_closed h sound closed =
    let new = without_waiting h in
    told_parts h new h.waiting [] [] []
    (ended_parts h new [] h.waiting []
    (ended_known new h.live (All-weaker (λ c. has_block h.live c ≡ true) (λ c. is_known new c ≡ true) (known_live new) h.live (all_has h.live)))
    (filter-all (λ b. not (is_known new b)) h.waiting (unknown_waiting h new sound closed refl refl refl))
    (ended_known new h.painted (All-weaker (λ c. has_block h.painted c ≡ true) (λ c. is_known new c ≡ true) (known_painted new) h.painted (all_has h.painted)))
    ∙ append-nil h.waiting)
    (come_itself h.live) refl (come_itself h.painted)
    ∙ free_alone h.waiting

freed_open : (h : HeapState) → IsSound h → blocks_tokens h (without_epoch h) ≡ named_blocks_tokens (codes "free") h.painted
freed_open h sound =
    let new = without_epoch h in
    let some = some_bytes h h.painted sound.painted_inside in
    let not_live = none_of h.painted h.live some (apart_turned h.live h.painted sound.apart_painted) in
    let not_waiting = none_of h.painted h.waiting some (apart_turned h.waiting h.painted sound.apart_held) in
    told_parts h new h.painted [] [] []
    (ended_parts h new [] [] h.painted
    (ended_known new h.live (All-weaker (λ c. has_block h.live c ≡ true) (λ c. is_known new c ≡ true) (known_live new) h.live (all_has h.live)))
    (ended_known new h.waiting (All-weaker (λ c. has_block h.waiting c ≡ true) (λ c. is_known new c ≡ true) (known_waiting new) h.waiting (all_has h.waiting)))
    (filter-all (λ b. not (is_known new b)) h.painted (λ i d lt. unknown new (get_or h.painted i d) (not_live i d lt) (not_waiting i d lt) refl)))
    (come_itself h.live) (come_itself h.waiting) refl
    ∙ free_alone h.painted

began_heap : (h : HeapState) → IsSound h → h.is_open ≡ false → blocks_tokens h (with_epoch h) ≡ named_blocks_tokens (codes "painted") h.waiting
began_heap h sound closed =
    let new = with_epoch h in
    let none = sound.closed closed in
    told_parts h new [] [] [] h.waiting
    (ended_parts h new [] [] []
    (ended_known new h.live (All-weaker (λ c. has_block h.live c ≡ true) (λ c. is_known new c ≡ true) (known_live new) h.live (all_has h.live)))
    (ended_known new h.waiting (All-weaker (λ c. has_block h.waiting c ≡ true) (λ c. is_known new c ≡ true) (known_painted new) h.waiting (all_has h.waiting)))
    (ap (ended new) none))
    (come_itself h.live) refl (ap (λ (bs : List Span). come_in bs h.waiting) none ∙ come_all h.waiting)

-- A block with the bounds of another.
both_bounds : (b c : Span) (base top : ℕ) → start_of b ≡ base → end_of b ≡ top → has_bounds (start_of c) (end_of c) b ≡ has_bounds base top c
both_bounds b c base top start end =
    elim (cases_Bool (has_bounds base top c)) [
      | inl is ↦
          let c_is = has_bounds-is base top c is in
          rw (eq-eqb (start_of b) (start_of c) (start ∙ sym c_is.0), eq-eqb (end_of b) (end_of c) (end ∙ sym c_is.1)) (sym is)
      | inr other ↦ elim (cases_Bool (has_bounds (start_of c) (end_of c) b)) [
        | inl is ↦
            let b_is = has_bounds-is (start_of c) (end_of c) b is in
            let c_has : has_bounds base top c ≡ true = rw (eq-eqb (start_of c) base (sym b_is.0 ∙ start), eq-eqb (end_of c) top (sym b_is.1 ∙ end)) refl in
            absurd (true≢false (sym c_has ∙ other))
        | inr none ↦ none ∙ sym other
      ]
    ]

freed_and_live : (h : HeapState) (size base top : ℕ) → IsSound h → IsSound (with_live (without_waiting h) size base) → h.is_open ≡ false → top ≡ base + block_length size
    → IsPlace (without_waiting h) size base
    → blocks_tokens h (with_live (without_waiting h) size base)
    ≡ named_blocks_tokens (codes "free") (filter (λ c. not (has_bounds base top c)) h.waiting) ++ named_blocks_tokens (codes "live") ((base, block_length size) ∷ [])
freed_and_live h size base top sound after closed end place =
    let b : Span = (base, block_length size) in
    let new = with_live (without_waiting h) size base in
    let some : 0 < block_length size = (of_with (IsInside new) b h.live after.live_inside).some in
    let not_live = none_of h.waiting h.live (some_bytes h h.waiting sound.waiting_inside) (apart_turned h.live h.waiting sound.apart_waiting) in
    let none = sound.closed closed in
    let each : All (λ c. not (is_known (with_live (without_waiting h) size base) c) ≡ not (has_bounds base top c)) h.waiting =
    All-weaker (λ c. has_block h.live c ≡ false) (λ c. not (is_known new c) ≡ not (has_bounds base top c))
    (λ c live. ap not (
    (λ i. has_with b c h.live i || (false || has_block (none i) c))
    ∙ ((λ i. (both_bounds b c base top refl (sym end) i || live i) || false) ∙ no_more (has_bounds base top c))
    )) h.waiting not_live in
    let free = filter (λ c. not (has_bounds base top c)) h.waiting in
    told_parts h new free (b ∷ []) [] []
    (ended_parts h new [] free []
    (ended_known new h.live (All-weaker (λ c. has_block h.live c ≡ true) (λ c. is_known new c ≡ true) (λ c is. known_live new c (has_with-more b c h.live is)) h.live (all_has h.live)))
    (filter-same (λ c. not (is_known new c)) (λ c. not (has_bounds base top c)) h.waiting each)
    (ended_known new h.painted (All-weaker (λ c. has_block h.painted c ≡ true) (λ c. is_known new c ≡ true) (known_painted new) h.painted (all_has h.painted)))
    ∙ append-nil free)
    (come_one b h.live (apart_none b h.live some place.free.live)) refl (come_itself h.painted)
    ∙ ap (λ (more : List Token). named_blocks_tokens (codes "free") free ++ more) (append-nil (named_blocks_tokens (codes "live") (b ∷ []))) where
      no_more : (t : Bool) → ((t || false) || false) ≡ t
      no_more true = refl
      no_more false = refl

-- ---- all of them

freed_heap : (is_open : Bool) (h : HeapState) → IsSound h → h.is_open ≡ is_open → blocks_tokens h (without_due h) ≡ named_blocks_tokens (codes "free") (due h)
freed_heap true h sound is =
    ap (blocks_tokens h) (without_due-open h is) ∙ (freed_open h sound ∙ ap (named_blocks_tokens (codes "free")) (sym (due-open h is)))
freed_heap false h sound is =
    ap (blocks_tokens h) (without_due-closed h is) ∙ (freed_closed h sound is ∙ ap (named_blocks_tokens (codes "free")) (sym (due-closed h is)))

-- Only where the reply tells of a pass does it matter which are due.
pub changed_blocks_tokens-same : (r : Reply) (these those : List Span) (start : ℕ) → (tells_pass r ≡ true → these ≡ those) → changed_blocks_tokens r these start ≡ changed_blocks_tokens r those start
changed_blocks_tokens-same (Block base top) these those start same = refl
changed_blocks_tokens-same (BlockAfter base top cleared) these those start same = ap (λ (due : List Span). changed_blocks_tokens (BlockAfter base top cleared) due start) (same refl)
changed_blocks_tokens-same NoSpace these those start same = refl
changed_blocks_tokens-same (NoSpaceAfter cleared) these those start same = ap (named_blocks_tokens (codes "free")) (same refl)
changed_blocks_tokens-same (Held bytes) these those start same = refl
changed_blocks_tokens-same Done these those start same = refl
changed_blocks_tokens-same Cleared these those start same = refl
changed_blocks_tokens-same (Swept cleared released) these those start same = ap (named_blocks_tokens (codes "free")) (same refl)
changed_blocks_tokens-same (Begun cleared) these those start same = ap (named_blocks_tokens (codes "painted")) (same refl)
changed_blocks_tokens-same (Shown shown) these those start same = refl
changed_blocks_tokens-same (Trap trap) these those start same = refl

length_is : (base top size : ℕ) → top ≡ base + block_length size → top - base ≡ block_length size
length_is base top size end = omega (arith, end)

pub changed_blocks_tokens-is : (s : State) (w : Option ℕ) (start : ℕ) (r : Reply) (new : State) → Did s w start r new → IsSound s.heap → IsSound new.heap
    → changed_blocks_tokens r (due s.heap) start ≡ blocks_tokens s.heap new.heap
changed_blocks_tokens-is s w start r new (quiet is granules heap) sound after = is.blocks (due s.heap) start ∙ sym (ap (blocks_tokens s.heap) heap ∙ same_heap s.heap)
changed_blocks_tokens-is s w start r new (wrote i is_i is heap count elsewhere) sound after = is.blocks (due s.heap) start ∙ sym (ap (blocks_tokens s.heap) heap ∙ same_heap s.heap)
changed_blocks_tokens-is s w start r new (handed_out size base top none is place end granules heap) sound after =
    let b : Span = (base, block_length size) in
    let live = subst IsSound heap after in
    let some : 0 < block_length size = (of_with (IsInside (with_live s.heap size base)) b s.heap.live live.live_inside).some in
    ap (λ (reply : Reply). changed_blocks_tokens reply (due s.heap) start) is
    ∙ ((λ i. named_blocks_tokens (codes "live") ((base, length_is base top size end i) ∷ []))
    ∙ sym (ap (blocks_tokens s.heap) heap ∙ live_heap s.heap b (apart_none b s.heap.live some place.free.live)))
changed_blocks_tokens-is s w start r new (gave_up base top none at is block granules heap) sound after =
    ap (λ (reply : Reply). changed_blocks_tokens reply (due s.heap) start) is
    ∙ ((λ i. named_blocks_tokens (codes "waiting") ((at i, top - base) ∷ [])) ∙ sym (ap (blocks_tokens s.heap) heap ∙ held_heap s.heap base top sound block))
changed_blocks_tokens-is s w start r new (freed none is tags granules heap) sound after =
    is.blocks (due s.heap) start ∙ sym (ap (blocks_tokens s.heap) heap ∙ freed_heap s.heap.is_open s.heap sound refl)
changed_blocks_tokens-is s w start r new (freed_and_handed_out size base top cleared none is tags closed place end granules heap) sound after =
    ap (λ (reply : Reply). changed_blocks_tokens reply (due s.heap) start) is
    ∙ ((λ i. named_blocks_tokens (codes "free") (filter (λ c. not (has_bounds base top c)) (due-closed s.heap closed i)) ++ named_blocks_tokens (codes "live") ((base, length_is base top size end i) ∷ []))
    ∙ sym (ap (blocks_tokens s.heap) heap ∙ freed_and_live s.heap size base top sound (subst IsSound heap after) closed end place))
changed_blocks_tokens-is s w start r new (began cleared none is tags closed granules heap) sound after =
    ap (λ (reply : Reply). changed_blocks_tokens reply (due s.heap) start) is
    ∙ (ap (named_blocks_tokens (codes "painted")) (due-closed s.heap closed) ∙ sym (ap (blocks_tokens s.heap) heap ∙ began_heap s.heap sound closed))
