-- Each tagged word of memory whose base lies in a painted block stands in a dirty page, after every command.
use Rattle.std.proofs.Common.{◌≡◌, ◌∙◌, ◌<◌, ◌*◌, ◌/◌, ◌&&◌, ℕ, Bool, true, false, not, Option, Some, None, inl, inr, List, [], length, get_or, set, refl, sym, ap, subst, arith}
use Rattle.std.proofs.lemmas.Bool.{and_parts, cases_eq, cases_lt, true≢false}
use Rattle.std.proofs.lemmas.List.{get_or-map, get_or-set_other, get_or-set_same, get_or_past, length-map, length-set}
use Rattle.heap_model.specs.Blocks.{Span}
use Rattle.heap_model.specs.Heap.{HeapState, empty_heap}
use Rattle.heap_model.specs.Sweep.{AreInDirtyPages, is_revoked, swept_granule, swept_granules, takes_tag}
use Rattle.tag_memory.specs.Cells.{Granule, cell_of, is_dirty_at, marks_after}
use Rattle.trace_text.specs.declared.trace.Command.{Command}
use Rattle.trace_text.specs.declared.trace.Command.TheVariants.{Malloc, Free, Copy, SetAddr, Narrow, AndPerm, StoreCap, LoadCap, Write, Show, Sweep, Begin, End}
use Rattle.heap_reply.specs.declared.reply.Reply.{Reply}
use Rattle.heap_reply.specs.declared.reply.Reply.TheVariants.{Block, BlockAfter, NoSpace, NoSpaceAfter, Held, Done, Cleared, Swept, Begun, Shown, Trap}
use Rattle.heap_reply.specs.declared.reply.Trap.{Trap as TheTrap}
use Rattle.machine_steps.specs.Dirty.{HasPages, IsDirtied, dirty_after, dirty_by}
use Rattle.machine_steps.specs.State.{State, register}
use Rattle.machine_steps.specs.Follow.{Allows, Follows, FollowsAfter, MallocAllows}
use Rattle.machine_steps.specs.Step.{Effect, Step, StepAfter, checks, first_failed, index_in}

-- ---- lists of granules

-- No granule past the end is tagged.
inside_of : (held : List Span) (granules : List Granule) (i : ℕ) → takes_tag held (cell_of (get_or granules i (0, false))) ≡ true → i < length granules
inside_of held granules i taken =
    elim (cases_lt i (length granules)) [
      | inl lt ↦ lt
      | inr past ↦ absurd (true≢false (sym taken ∙ ap (λ (g : Granule). takes_tag held (cell_of g)) (get_or_past granules i (0, false) past)))
    ]

-- Where a sweep took tags, what is left was there before.
InDirtyPages-fewer : (held swept : List Span) (granules : List Granule) (dirty : List Bool) → AreInDirtyPages granules dirty held → AreInDirtyPages (swept_granules swept granules) dirty held
InDirtyPages-fewer held swept granules dirty stand i taken =
    let lt : i < length granules = omega (arith, inside_of held (swept_granules swept granules) i taken, length-map granules (swept_granule swept)) in
    let g = get_or granules i (0, false) in
    let is : get_or (swept_granules swept granules) i (0, false) ≡ swept_granule swept (get_or granules i (0, false)) = get_or-map (swept_granule swept) granules i (0, false) (0, false) lt in
    let left : takes_tag held (cell_of (swept_granule swept (get_or granules i (0, false)))) ≡ true = ap (λ (x : Granule). takes_tag held (cell_of x)) (sym is) ∙ taken in
    let both = and_parts (g.1 && not (is_revoked swept (cell_of g).0)) (is_revoked held (cell_of g).0) left in
    let tag = (and_parts g.1 (not (is_revoked swept (cell_of g).0)) both.0).0 in
    stand i (both_true g.1 (is_revoked held (cell_of g).0) tag both.1) where
      both_true : (a b : Bool) → a ≡ true → b ≡ true → (a && b) ≡ true
      both_true true b p q = q
      both_true false b p q = p

-- A sweep of these blocks leaves none of theirs.
InDirtyPages-swept : (held : List Span) (granules : List Granule) (dirty : List Bool) → AreInDirtyPages (swept_granules held granules) dirty held
InDirtyPages-swept held granules dirty i taken =
    let lt : i < length granules = omega (arith, inside_of held (swept_granules held granules) i taken, length-map granules (swept_granule held)) in
    let g = get_or granules i (0, false) in
    let is : get_or (swept_granules held granules) i (0, false) ≡ swept_granule held (get_or granules i (0, false)) = get_or-map (swept_granule held) granules i (0, false) (0, false) lt in
    let left : takes_tag held (cell_of (swept_granule held (get_or granules i (0, false)))) ≡ true = ap (λ (x : Granule). takes_tag held (cell_of x)) (sym is) ∙ taken in
    absurd (true≢false (sym left ∙ none g.1 (is_revoked held (cell_of g).0))) where
      none : (t r : Bool) → ((t && not r) && r) ≡ false
      none true true = refl
      none true false = refl
      none false r = refl

-- With no blocks there is nothing to look for.
InDirtyPages-none : (granules : List Granule) (dirty : List Bool) → AreInDirtyPages granules dirty []
InDirtyPages-none granules dirty i taken = absurd (true≢false (sym taken ∙ off (get_or granules i (0, false)).1)) where
  off : (t : Bool) → (t && false) ≡ false
  off true = refl
  off false = refl

-- So it is in the first state.
pub InDirtyPages-first : (granules : List Granule) (dirty : List Bool) (heap : HeapState) (base pages : ℕ) → heap ≡ empty_heap base pages → AreInDirtyPages granules dirty heap.painted
InDirtyPages-first granules dirty heap base pages first =
    subst (λ (blocks : List Span). AreInDirtyPages granules dirty blocks) (sym (ap (λ (h : HeapState). h.painted) first)) (InDirtyPages-none granules dirty)

-- A page that is dirty stays so once another is.
still_dirty : (dirty : List Bool) (page j : ℕ) → is_dirty_at dirty page ≡ true → is_dirty_at (set dirty j true) page ≡ true
still_dirty dirty page j is =
    elim (cases_eq page j) [
      | inl same ↦
          let inside : page < length dirty = elim (cases_lt page (length dirty)) [
            | inl lt ↦ lt
            | inr past ↦ absurd (true≢false (sym is ∙ get_or_past dirty page false past))
          ] in
          subst (λ (k : ℕ). get_or (set dirty k true) page false ≡ true) same (get_or-set_same dirty page true false inside)
      | inr other ↦ get_or-set_other dirty j page true false other ∙ is
    ]

-- A granule written, with its page.
InDirtyPages-put : (held : List Span) (granules : List Granule) (dirty : List Bool) (i : ℕ) (granule : Granule) → length granules ≡ 256 * length dirty → AreInDirtyPages granules dirty held
    → AreInDirtyPages (set granules i granule) (marks_after dirty i granule.1) held
InDirtyPages-put held granules dirty i (bits, false) pages stand k taken =
    elim (cases_eq k i) [
      | inl same ↦
          let lt : k < length granules = omega (arith, inside_of held (set granules i (bits, false)) k taken, length-set granules i (bits, false)) in
          let here : get_or (set granules i (bits, false)) k (0, false) ≡ (bits, false) = subst (λ (j : ℕ). get_or (set granules j (bits, false)) k (0, false) ≡ (bits, false)) same (get_or-set_same granules k (bits, false) (0, false) lt) in
          absurd (true≢false (sym taken ∙ ap (λ (g : Granule). takes_tag held (cell_of g)) here))
      | inr other ↦ stand k (ap (λ (g : Granule). takes_tag held (cell_of g)) (sym (get_or-set_other granules i k (bits, false) (0, false) other)) ∙ taken)
    ]
InDirtyPages-put held granules dirty i (bits, true) pages stand k taken =
    elim (cases_eq k i) [
      | inl same ↦
          let lt : k < length granules = omega (arith, inside_of held (set granules i (bits, true)) k taken, length-set granules i (bits, true)) in
          subst (λ (j : ℕ). is_dirty_at (set dirty (j / 256) true) (k / 256) ≡ true) same (get_or-set_same dirty (k / 256) true false (omega (arith, lt, pages)))
      | inr other ↦ still_dirty dirty (k / 256) (i / 256) (stand k (ap (λ (g : Granule). takes_tag held (cell_of g)) (sym (get_or-set_other granules i k (bits, true) (0, false) other)) ∙ taken))
    ]

-- ---- steps

Malloc-dirtied : (old : State) (rd size : ℕ) (r : Reply) (new : State) (dirty : List Bool) → IsDirtied old dirty → MallocAllows old rd size r new → IsDirtied new dirty
Malloc-dirtied old rd size (Block base top) new dirty stand effect = subst (λ (s : State). IsDirtied s dirty) (sym effect.state) stand
Malloc-dirtied old rd size (BlockAfter base top cleared) new dirty stand effect =
    subst (λ (s : State). IsDirtied s dirty) (sym effect.1.state) (InDirtyPages-fewer old.heap.painted old.heap.waiting old.granules dirty stand)
Malloc-dirtied old rd size NoSpace new dirty stand effect = subst (λ (s : State). IsDirtied s dirty) (sym effect.state) stand
Malloc-dirtied old rd size (NoSpaceAfter cleared) new dirty stand effect =
    subst (λ (s : State). IsDirtied s dirty) (sym effect.1.state) (InDirtyPages-fewer old.heap.painted old.heap.waiting old.granules dirty stand)
Malloc-dirtied old rd size (Held bytes) new dirty stand effect = absurd effect
Malloc-dirtied old rd size Done new dirty stand effect = absurd effect
Malloc-dirtied old rd size Cleared new dirty stand effect = absurd effect
Malloc-dirtied old rd size (Swept cleared released) new dirty stand effect = absurd effect
Malloc-dirtied old rd size (Begun cleared) new dirty stand effect = absurd effect
Malloc-dirtied old rd size (Shown shown) new dirty stand effect = absurd effect
Malloc-dirtied old rd size (Trap trap) new dirty stand effect = absurd effect

Allows-dirtied : (old : State) (c : Command) (r : Reply) (new : State) (dirty : List Bool) → HasPages old dirty → IsDirtied old dirty → Allows old c r new → IsDirtied new (dirty_by None old c dirty)
Allows-dirtied old (Malloc rd size) r new dirty pages stand effect = Malloc-dirtied old rd size r new dirty stand effect
Allows-dirtied old (Free rs) r new dirty pages stand effect = subst (λ (s : State). IsDirtied s dirty) (sym effect.1) stand
Allows-dirtied old (Copy rd rs) r new dirty pages stand effect = subst (λ (s : State). IsDirtied s dirty) (sym effect.1) stand
Allows-dirtied old (SetAddr rd rs a) r new dirty pages stand effect = subst (λ (s : State). IsDirtied s dirty) (sym effect.1) stand
Allows-dirtied old (Narrow rd rs n) r new dirty pages stand effect = subst (λ (s : State). IsDirtied s dirty) (sym effect.1) stand
Allows-dirtied old (AndPerm rd rs mask) r new dirty pages stand effect = subst (λ (s : State). IsDirtied s dirty) (sym effect.1) stand
Allows-dirtied old (StoreCap ra rs) r new dirty pages stand effect =
    let c = register old rs in
    subst (λ (s : State). IsDirtied s (dirty_by None old (StoreCap ra rs) dirty)) (sym effect.1)
    (InDirtyPages-put old.heap.painted old.granules dirty (index_in old (register old ra).0) (c.0.bits, c.1) pages stand)
Allows-dirtied old (LoadCap rd ra) r new dirty pages stand effect = subst (λ (s : State). IsDirtied s dirty) (sym effect.1) stand
Allows-dirtied old (Write ra bytes) r new dirty pages stand effect =
    subst (λ (s : State). IsDirtied s dirty) (sym effect.1) (InDirtyPages-put old.heap.painted old.granules dirty (index_in old (register old ra).0) (_, false) pages stand)
Allows-dirtied old (Show rs) r new dirty pages stand effect = subst (λ (s : State). IsDirtied s dirty) (sym effect.1) stand
Allows-dirtied old Sweep r new dirty pages stand effect =
    subst (λ (s : State). IsDirtied s dirty) (sym effect.1) (InDirtyPages-fewer old.heap.painted old.heap.waiting old.granules dirty stand)
Allows-dirtied old Begin r new dirty pages stand effect =
    subst (λ (s : State). IsDirtied s (dirty_by None old Begin dirty)) (sym effect.1) (InDirtyPages-swept old.heap.waiting old.granules _)
Allows-dirtied old End r new dirty pages stand effect =
    subst (λ (s : State). IsDirtied s dirty) (sym effect.1) (InDirtyPages-none (swept_granules old.heap.painted old.granules) dirty)

FollowsAfter-dirtied : (t : Option TheTrap) (old : State) (c : Command) (r : Reply) (new : State) (dirty : List Bool) → HasPages old dirty → IsDirtied old dirty → FollowsAfter t old c r new
    → IsDirtied new (dirty_by t old c dirty)
FollowsAfter-dirtied None old c r new dirty pages stand step = Allows-dirtied old c r new dirty pages stand step
FollowsAfter-dirtied (Some t) old c r new dirty pages stand step = subst (λ (s : State). IsDirtied s dirty) (sym step.1) stand

pub Follows-dirtied : (old : State) (c : Command) (r : Reply) (new : State) (dirty : List Bool) → HasPages old dirty → IsDirtied old dirty → Follows old c r new → IsDirtied new (dirty_after old c dirty)
Follows-dirtied old c r new dirty pages stand step = FollowsAfter-dirtied (first_failed (checks old c)) old c r new dirty pages stand step

-- A step does so too, whether or not it is a state in which blocks may be claimed.
Malloc-step_dirtied : (old : State) (rd size : ℕ) (r : Reply) (new : State) (dirty : List Bool) → IsDirtied old dirty → Effect old (Malloc rd size) r new → IsDirtied new dirty
Malloc-step_dirtied old rd size (Block base top) new dirty stand effect = subst (λ (s : State). IsDirtied s dirty) (sym effect.state) stand
Malloc-step_dirtied old rd size (BlockAfter base top cleared) new dirty stand effect =
    subst (λ (s : State). IsDirtied s dirty) (sym effect.1.state) (InDirtyPages-fewer old.heap.painted old.heap.waiting old.granules dirty stand)
Malloc-step_dirtied old rd size NoSpace new dirty stand effect = subst (λ (s : State). IsDirtied s dirty) (sym effect.1.state) stand
Malloc-step_dirtied old rd size (NoSpaceAfter cleared) new dirty stand effect =
    subst (λ (s : State). IsDirtied s dirty) (sym effect.1.state) (InDirtyPages-fewer old.heap.painted old.heap.waiting old.granules dirty stand)
Malloc-step_dirtied old rd size (Held bytes) new dirty stand effect = absurd effect
Malloc-step_dirtied old rd size Done new dirty stand effect = absurd effect
Malloc-step_dirtied old rd size Cleared new dirty stand effect = absurd effect
Malloc-step_dirtied old rd size (Swept cleared released) new dirty stand effect = absurd effect
Malloc-step_dirtied old rd size (Begun cleared) new dirty stand effect = absurd effect
Malloc-step_dirtied old rd size (Shown shown) new dirty stand effect = absurd effect
Malloc-step_dirtied old rd size (Trap trap) new dirty stand effect = absurd effect

StepAfter-dirtied : (t : Option TheTrap) (old : State) (c : Command) (r : Reply) (new : State) (dirty : List Bool) → HasPages old dirty → IsDirtied old dirty → StepAfter t old c r new
    → IsDirtied new (dirty_by t old c dirty)
StepAfter-dirtied (Some t) old c r new dirty pages stand step = subst (λ (s : State). IsDirtied s dirty) (sym step.1) stand
StepAfter-dirtied None old (Malloc rd size) r new dirty pages stand step = Malloc-step_dirtied old rd size r new dirty stand step
StepAfter-dirtied None old (Free rs) r new dirty pages stand step = Allows-dirtied old (Free rs) r new dirty pages stand step
StepAfter-dirtied None old (Copy rd rs) r new dirty pages stand step = Allows-dirtied old (Copy rd rs) r new dirty pages stand step
StepAfter-dirtied None old (SetAddr rd rs a) r new dirty pages stand step = Allows-dirtied old (SetAddr rd rs a) r new dirty pages stand step
StepAfter-dirtied None old (Narrow rd rs n) r new dirty pages stand step = Allows-dirtied old (Narrow rd rs n) r new dirty pages stand step
StepAfter-dirtied None old (AndPerm rd rs mask) r new dirty pages stand step = Allows-dirtied old (AndPerm rd rs mask) r new dirty pages stand step
StepAfter-dirtied None old (StoreCap ra rs) r new dirty pages stand step = Allows-dirtied old (StoreCap ra rs) r new dirty pages stand step
StepAfter-dirtied None old (LoadCap rd ra) r new dirty pages stand step = Allows-dirtied old (LoadCap rd ra) r new dirty pages stand step
StepAfter-dirtied None old (Write ra bytes) r new dirty pages stand step = Allows-dirtied old (Write ra bytes) r new dirty pages stand step
StepAfter-dirtied None old (Show rs) r new dirty pages stand step = Allows-dirtied old (Show rs) r new dirty pages stand step
StepAfter-dirtied None old Sweep r new dirty pages stand step = Allows-dirtied old Sweep r new dirty pages stand step
StepAfter-dirtied None old Begin r new dirty pages stand step = Allows-dirtied old Begin r new dirty pages stand step
StepAfter-dirtied None old End r new dirty pages stand step = Allows-dirtied old End r new dirty pages stand step

pub Step-dirtied : (old : State) (c : Command) (r : Reply) (new : State) (dirty : List Bool) → HasPages old dirty → IsDirtied old dirty → Step old c r new → IsDirtied new (dirty_after old c dirty)
Step-dirtied old c r new dirty pages stand step = StepAfter-dirtied (first_failed (checks old c)) old c r new dirty pages stand step
