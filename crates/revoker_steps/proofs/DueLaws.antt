-- Granules that are still to be looked at, or again.
use Rattle.std.proofs.Common.{◌≡◌, ◌∙◌, ◌==◌, ◌<◌, ◌≤◌, ◌||◌, ◌&&◌, ℕ, Bool, true, false, cond, not, Option, Some, None, inl, inr, List, length, get_or, set, refl, sym, ap, subst, arith}
use Rattle.std.proofs.Math.Bool.{and-false}
use Rattle.std.specs.Prelude.{slice_index_or}
use Rattle.std.proofs.lemmas.Bool.{cases_eq, cases_lt, eq-eqb, false_from_ne_true, true≢false}
use Rattle.std.proofs.lemmas.List.{get_or-set_other, get_or-set_same, get_or_past, length-set}
use Rattle.heap_model.specs.Blocks.{Span, bytes_in}
use Rattle.heap_model.specs.Sweep.{swept_granule, takes_tag}
use Rattle.tag_memory.specs.Cells.{Granule, cell_of, null_cell}
use Rattle.trace_text.specs.declared.trace.Command.{Command}
use Rattle.trace_text.specs.declared.trace.Command.TheVariants.{Malloc, Free, Copy, SetAddr, Narrow, AndPerm, StoreCap, LoadCap, Write, Show, Sweep, Begin, End}
use Rattle.heap_reply.specs.declared.reply.Reply.{Reply}
use Rattle.heap_reply.specs.declared.reply.Reply.TheVariants.{Block, BlockAfter, NoSpace, NoSpaceAfter, Held, Done, Cleared, Swept, Begun, Shown, Trap}
use Rattle.heap_reply.specs.declared.reply.Trap.{Trap as TheTrap}
use Rattle.machine_steps.specs.Follow.{Allows, Follows, FollowsAfter, MallocAllows}
use Rattle.machine_steps.specs.State.{State, register}
use Rattle.machine_steps.specs.Step.{checks, first_failed, index_in}
use Rattle.revoker_steps.specs.declared.command.RevokerCommand.TheVariants.{Release, UntagGranule}
use Rattle.revoker_steps.specs.declared.command.RevokerReply.TheVariants as reply
use Rattle.revoker_steps.specs.Revoker.{IsNothingLeft, RevokerStep, after_release, is_at}
use Rattle.revoker_steps.specs.Tracked.{IsDueAt, stores_at}
use Rattle.revoker_steps.specs.ChangedLaws.{get_or-changed}
use Rattle.revoker_steps.proofs.PassLaws.{or_left, or_right, spared_swept}
use Rattle.revoker_steps.proofs.StepLaws.{Cleared-untag, releases}
use Rattle.revoker_steps.proofs.BarredLaws.{closed_open, not_closed}

both : (a b : Bool) → a ≡ true → b ≡ true → (a && b) ≡ true
both true b e f = f
both false b e f = e

-- ---- commands

-- What is due is due among more.
IsDueAt-more : (s : State) (due more : ℕ → Bool) → IsDueAt s due → IsDueAt s (λ i. due i || more i)
IsDueAt-more s due more is i taken = or_left (due i) (more i) (is i taken)

-- Where a granule is written, what is due is what was due, and that granule where it is tagged.
put : (held : List Span) (granules : List Granule) (at i : ℕ) (granule : Granule) (d : Bool) → (takes_tag held (cell_of (get_or granules i (0, false))) ≡ true → d ≡ true)
    → takes_tag held (cell_of (get_or (set granules at granule) i (0, false))) ≡ true → (d || (i == at && granule.1)) ≡ true
put held granules at i (bits, tag) d was taken =
    elim (cases_eq i at) [
      | inl same ↦ elim (cases_lt i (length granules)) [
        | inl lt ↦
            let here : get_or (set granules at (bits, tag)) i (0, false) ≡ (bits, tag) = subst (λ (j : ℕ). get_or (set granules j (bits, tag)) i (0, false) ≡ (bits, tag)) same (get_or-set_same granules i (bits, tag) (0, false) lt) in
            let tagged : tag ≡ true = tag_of tag (sym (ap (λ (g : Granule). takes_tag held (cell_of g)) here) ∙ taken) in
            or_right d (i == at && tag) (both (i == at) tag (eq-eqb i at same) tagged)
        | inr past ↦ or_left d (i == at && tag) (was (ap (λ (g : Granule). takes_tag held (cell_of g)) (same_past same past) ∙ taken))
      ]
      | inr other ↦ or_left d (i == at && tag) (was (ap (λ (g : Granule). takes_tag held (cell_of g)) (sym (get_or-set_other granules at i (bits, tag) (0, false) other)) ∙ taken))
    ] where
      tag_of : (t : Bool) → takes_tag held (cell_of (bits, t)) ≡ true → t ≡ true
      tag_of true taken = refl
      tag_of false taken = absurd (true≢false (sym taken))

      same_past : i ≡ at → length granules ≤ i → get_or granules i (0, false) ≡ get_or (set granules at (bits, tag)) i (0, false)
      same_past same past = get_or_past granules i (0, false) past ∙ sym (get_or_past (set granules at (bits, tag)) i (0, false) (omega (arith, past, length-set granules at (bits, tag))))

Malloc-due : (old : State) (due more : ℕ → Bool) (rd size : ℕ) (r : Reply) (new : State) → old.heap.is_open ≡ true → IsDueAt old due → MallocAllows old rd size r new → IsDueAt new (λ i. due i || more i)
Malloc-due old due more rd size (Block base top) new opened is effect = subst (λ (s : State). IsDueAt s (λ i. due i || more i)) (sym effect.state) (λ i taken. or_left (due i) (more i) (is i taken))
Malloc-due old due more rd size (BlockAfter base top cleared) new opened is effect = absurd (closed_open old opened effect.0.may.closed)
Malloc-due old due more rd size NoSpace new opened is effect = subst (λ (s : State). IsDueAt s (λ i. due i || more i)) (sym effect.state) (λ i taken. or_left (due i) (more i) (is i taken))
Malloc-due old due more rd size (NoSpaceAfter cleared) new opened is effect = absurd (closed_open old opened effect.0.may.closed)
Malloc-due old due more rd size (Held bytes) new opened is effect = absurd effect
Malloc-due old due more rd size Done new opened is effect = absurd effect
Malloc-due old due more rd size Cleared new opened is effect = absurd effect
Malloc-due old due more rd size (Swept cleared released) new opened is effect = absurd effect
Malloc-due old due more rd size (Begun cleared) new opened is effect = absurd effect
Malloc-due old due more rd size (Shown shown) new opened is effect = absurd effect
Malloc-due old due more rd size (Trap trap) new opened is effect = absurd effect

-- What is due in a state is due in one with the same memory and painted blocks.
abbrev Due : State → Command → (ℕ → Bool) → State → Type 0
Due old c due new = IsDueAt new (λ i. due i || stores_at old c i)

Allows-due : (old : State) (due : ℕ → Bool) (c : Command) (r : Reply) (new : State) → old.heap.is_open ≡ true → IsDueAt old due → first_failed (checks old c) ≡ None → Allows old c r new → Due old c due new
Allows-due old due (Malloc rd size) r new opened is passed effect = Malloc-due old due _ rd size r new opened is effect
Allows-due old due (Free rs) r new opened is passed effect = subst (Due old (Free rs) due) (sym effect.1) (λ i taken. or_left (due i) _ (is i taken))
Allows-due old due (Copy rd rs) r new opened is passed effect = subst (Due old (Copy rd rs) due) (sym effect.1) (λ i taken. or_left (due i) _ (is i taken))
Allows-due old due (SetAddr rd rs a) r new opened is passed effect = subst (Due old (SetAddr rd rs a) due) (sym effect.1) (λ i taken. or_left (due i) _ (is i taken))
Allows-due old due (Narrow rd rs n) r new opened is passed effect = subst (Due old (Narrow rd rs n) due) (sym effect.1) (λ i taken. or_left (due i) _ (is i taken))
Allows-due old due (AndPerm rd rs mask) r new opened is passed effect = subst (Due old (AndPerm rd rs mask) due) (sym effect.1) (λ i taken. or_left (due i) _ (is i taken))
Allows-due old due (StoreCap ra rs) r new opened is passed effect =
    let c = register old rs in
    subst (Due old (StoreCap ra rs) due) (sym effect.1) (λ i taken. put old.heap.painted old.granules (index_in old (register old ra).0) i (c.0.bits, c.1) (due i) (is i) taken)
Allows-due old due (LoadCap rd ra) r new opened is passed effect = subst (Due old (LoadCap rd ra) due) (sym effect.1) (λ i taken. or_left (due i) _ (is i taken))
Allows-due old due (Write ra bytes) r new opened is passed effect =
    subst (Due old (Write ra bytes) due) (sym effect.1)
    (λ i taken. or_left (due i) false (not_stored (due i) (i == index_in old (register old ra).0) (put old.heap.painted old.granules (index_in old (register old ra).0) i (_, false) (due i) (is i) taken))) where
      not_stored : (d e : Bool) → (d || (e && false)) ≡ true → d ≡ true
      not_stored true e p = refl
      not_stored false e p = absurd (true≢false (sym p ∙ and-false e))
Allows-due old due (Show rs) r new opened is passed effect = subst (Due old (Show rs) due) (sym effect.1) (λ i taken. or_left (due i) _ (is i taken))
Allows-due old due Sweep r new opened is passed effect = absurd (not_closed old opened passed)
Allows-due old due Begin r new opened is passed effect = absurd (not_closed old opened passed)
Allows-due old due End r new opened is passed effect = subst (Due old End due) (sym effect.1) (λ i taken. absurd (true≢false (sym taken ∙ and-false _)))

FollowsAfter-due : (t : Option TheTrap) (old : State) (due : ℕ → Bool) (c : Command) (r : Reply) (new : State) → old.heap.is_open ≡ true → IsDueAt old due → first_failed (checks old c) ≡ t
    → FollowsAfter t old c r new → Due old c due new
FollowsAfter-due None old due c r new opened is passed step = Allows-due old due c r new opened is passed step
FollowsAfter-due (Some t) old due c r new opened is failed step = subst (Due old c due) (sym step.1) (IsDueAt-more old due (stores_at old c) is)

pub Follows-due : (old : State) (due : ℕ → Bool) (c : Command) (r : Reply) (new : State) → old.heap.is_open ≡ true → IsDueAt old due → Follows old c r new → IsDueAt new (λ i. due i || stores_at old c i)
Follows-due old due c r new opened is step = FollowsAfter-due (first_failed (checks old c)) old due c r new opened is refl step

-- ---- the revoker

changed : (held : List Span) (g : Granule) (d b : Bool) → (takes_tag held (cell_of g) ≡ true → d ≡ true) → takes_tag held (cell_of (cond b (swept_granule held g) g)) ≡ true → (d && not b) ≡ true
changed held g d true was taken = absurd (true≢false (sym taken ∙ spared_swept held (cell_of g)))
changed held g d false was taken = both d true (was taken) refl

pub IsDueAt-looked : (old : State) (due : ℕ → Bool) (address cleared : ℕ) (new : State) → IsDueAt old due → RevokerStep old (UntagGranule address) (reply.Cleared cleared) new → IsDueAt new (λ i. due i && not (is_at old address i))
IsDueAt-looked old due address cleared new is step =
    subst (λ (s : State). IsDueAt s (λ i. due i && not (is_at old address i))) (sym (Cleared-untag old address cleared new step).1)
    (λ i taken. changed old.heap.painted (get_or old.granules i (0, false)) (due i) (is_at old address i) (is i)
    (ap (λ (g : Granule). takes_tag old.heap.painted (cell_of g)) (sym (get_or-changed (swept_granule old.heap.painted) (0, false) refl (is_at old address) old.granules i)) ∙ taken))

pub none_due : (s : State) (due : ℕ → Bool) → s.heap.is_open ≡ true → IsDueAt s due → ((i : ℕ) → i < length s.granules → due i ≡ false) → ((r : ℕ) → takes_tag s.heap.painted (slice_index_or s.registers r null_cell) ≡ false)
    → RevokerStep s Release (reply.Released (bytes_in s.heap.painted)) (after_release s)
none_due s due opened is none registers =
    let nothing : IsNothingLeft s s.heap.painted = record {
      registers = registers;
      granules = λ i. elim (cases_lt i (length s.granules)) [
        | inl lt ↦ false_from_ne_true (takes_tag s.heap.painted (cell_of (get_or s.granules i (0, false)))) (λ taken. true≢false (sym (is i taken) ∙ none i lt))
        | inr past ↦ ap (λ (g : Granule). takes_tag s.heap.painted (cell_of g)) (get_or_past s.granules i (0, false) past)
      ];
    } in
    releases s opened nothing
