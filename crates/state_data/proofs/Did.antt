-- What a command did to memory and to blocks, told without registers.
use Rattle.std.proofs.Common.{◌≡◌, ◌∙◌, ◌≢◌, ◌+◌, ◌-◌, ◌==◌, ℕ, Bool, inl, inr, drop, arith, true, false, not, cond, if◌then◌else◌, Option, Some, None, List, [], ◌∷◌, codes, length, get_or, set, length-set, refl, sym, ap, subst}
use Rattle.std.proofs.lemmas.Bool.{cases_eq, ne_eqb, true≢false}
use Rattle.std.proofs.lemmas.List.{get_or-set_other}
use Rattle.std.specs.List.{count_by}
use Rattle.cap_codec.specs.Words.{bounds_in}
use Rattle.heap_model.specs.Blocks.{Span, is_block}
use Rattle.heap_model.specs.Heap.{due}
use Rattle.heap_model.specs.Laws.{due-closed, due-open, without_due-closed, without_due-open}
use Rattle.heap_model.specs.Place.{IsPlace, block_length, with_live}
use Rattle.heap_model.specs.Quarantine.{is_held_block, with_epoch, with_waiting, without_due, without_waiting}
use Rattle.machine_steps.specs.State.{State, register}
use Rattle.machine_steps.specs.Step.{Effect, Step, StepAfter, checks, first_failed, index_in}
use Rattle.heap_reply.specs.declared.reply.Reply.{Reply}
use Rattle.heap_reply.specs.declared.reply.Reply.TheVariants.{Block, BlockAfter, NoSpace, NoSpaceAfter, Held, Done, Cleared, Swept, Begun, Shown, Trap}
use Rattle.heap_reply.specs.declared.reply.Trap.{Trap as TheTrap}
use Rattle.heap_reply.specs.declared.reply.Trap.TheVariants.{Freed, NotBlock, NotOpen, Open, Tag}
use Rattle.heap_model.specs.Sweep.{swept_granules, tags_taken, takes_tag}
use Rattle.tag_memory.specs.Cells.{Granule, cell_of}
use Rattle.trace_text.specs.declared.trace.Command.{Command}
use Rattle.trace_text.specs.declared.trace.Command.TheVariants.{Malloc, Free, Copy, SetAddr, Narrow, AndPerm, StoreCap, LoadCap, Write, Show, Sweep, Begin, End}
use Rattle.data_tokens.specs.Blocks.{named_blocks_tokens}
use Rattle.state_data.specs.States.{tells_pass, tells_registers}
use Rattle.state_data.specs.Recording.{changed_blocks_tokens, freed_base, open_after, painted_after, takes_tags, waiting_after, written_granule}

-- The reply tells of no pass, and of no block.
pub record IsQuiet (r : Reply) : Type 0 where
  pub pass : tells_pass r ≡ false
  pub blocks : (blocks : List Span) (start : ℕ) → changed_blocks_tokens r blocks start ≡ []
  pub waiting : (is_open : Bool) (waiting : List Span) (start : ℕ) → waiting_after r is_open waiting start ≡ waiting
  pub painted : (waiting painted : List Span) → painted_after r waiting painted ≡ painted
  pub is_open : (is_open : Bool) → open_after r is_open ≡ is_open

-- The reply tells of a pass after which the blocks that were due are free.
pub record IsFreeing (r : Reply) : Type 0 where
  pub pass : tells_pass r ≡ true
  pub blocks : (blocks : List Span) (start : ℕ) → changed_blocks_tokens r blocks start ≡ named_blocks_tokens (codes "free") blocks
  pub waiting : (is_open : Bool) (waiting : List Span) (start : ℕ) → waiting_after r is_open waiting start ≡ (if is_open then waiting else [])
  pub painted : (waiting painted : List Span) → painted_after r waiting painted ≡ []
  pub is_open : (is_open : Bool) → open_after r is_open ≡ false

-- Where the reply tells of no tag that a pass took, none is taken of a granule, nor of a register if it looked at registers.
pub record TellsTags (s : State) (r : Reply) : Type 0 where
  pub granules : takes_tags r ≡ false → count_by (λ g. takes_tag (due s.heap) (cell_of g)) s.granules ≡ 0
  pub registers : takes_tags r ≡ false → tells_registers r ≡ true → count_by (takes_tag (due s.heap)) (drop 1 s.registers) ≡ 0

-- With the granule that it may write, and the start of a block that it may give up.
pub data Did (s : State) (w : Option ℕ) (start : ℕ) (r : Reply) (new : State) : Type 0 where
  quiet : IsQuiet r → new.granules ≡ s.granules → new.heap ≡ s.heap → Did s w start r new
  wrote : (i : ℕ) → w ≡ Some i → IsQuiet r → new.heap ≡ s.heap → length new.granules ≡ length s.granules
      → ((k : ℕ) → k ≢ i → get_or new.granules k (0, false) ≡ get_or s.granules k (0, false)) → Did s w start r new
  handed_out : (size base top : ℕ) → w ≡ None → r ≡ Block base top → IsPlace s.heap size base → top ≡ base + block_length size
      → new.granules ≡ s.granules → new.heap ≡ with_live s.heap size base → Did s w start r new
  gave_up : (base top : ℕ) → w ≡ None → start ≡ base → r ≡ Held (top - base) → is_block s.heap.live base top ≡ true
      → new.granules ≡ s.granules → new.heap ≡ with_waiting s.heap base top → Did s w start r new
  freed : w ≡ None → IsFreeing r → TellsTags s r → new.granules ≡ swept_granules (due s.heap) s.granules → new.heap ≡ without_due s.heap → Did s w start r new
  freed_and_handed_out : (size base top cleared : ℕ) → w ≡ None → r ≡ BlockAfter base top cleared → TellsTags s r → s.heap.is_open ≡ false
      → IsPlace (without_waiting s.heap) size base → top ≡ base + block_length size → new.granules ≡ swept_granules s.heap.waiting s.granules
      → new.heap ≡ with_live (without_waiting s.heap) size base → Did s w start r new
  began : (cleared : ℕ) → w ≡ None → r ≡ Begun cleared → TellsTags s r → s.heap.is_open ≡ false → new.granules ≡ swept_granules s.heap.waiting s.granules
      → new.heap ≡ with_epoch s.heap → Did s w start r new

-- ---- replies

quiet_if : (r told : Reply) → r ≡ told → IsQuiet told → IsQuiet r
quiet_if r told is = subst IsQuiet (sym is)

quiet_done : IsQuiet Done
quiet_done = record { pass = refl; blocks = λ blocks start. refl; waiting = λ is_open waiting start. refl; painted = λ waiting painted. refl; is_open = λ is_open. refl }

quiet_cleared : IsQuiet Cleared
quiet_cleared = record { pass = refl; blocks = λ blocks start. refl; waiting = λ is_open waiting start. refl; painted = λ waiting painted. refl; is_open = λ is_open. refl }

quiet_trap : (trap : TheTrap) → IsQuiet (Trap trap)
quiet_trap trap = record { pass = refl; blocks = λ blocks start. refl; waiting = λ is_open waiting start. refl; painted = λ waiting painted. refl; is_open = λ is_open. refl }

-- A trapped command did nothing.
trapped : (s : State) (w : Option ℕ) (start : ℕ) (r : Reply) (new : State) (trap : TheTrap) → (r ≡ Trap trap) × (new ≡ s) → Did s w start r new
trapped s w start r new trap step =
    quiet (quiet_if r (Trap trap) step.0 (quiet_trap trap)) (ap (λ (x : State). x.granules) step.1) (ap (λ (x : State). x.heap) step.1)

either_way : (b : Bool) → IsQuiet (cond b Cleared Done)
either_way true = quiet_cleared
either_way false = quiet_done

-- ---- how many tags

no_tags : (n : ℕ) → not (n == 0) ≡ false → n ≡ 0
no_tags n none = elim (cases_eq n 0) [ inl zero ↦ zero | inr some ↦ absurd (true≢false (sym (ap not (ne_eqb n 0 some)) ∙ none)) ]

-- A reply tells of the tags that a pass took over memory and registers, and one of those that a pass took over memory.
tells_all : (s : State) (r : Reply) (cleared : ℕ) → takes_tags r ≡ not (cleared == 0) → cleared ≡ tags_taken (due s.heap) s.granules s.registers → TellsTags s r
tells_all s r cleared is all = record {
  granules = λ none. (let zero = no_tags cleared (sym is ∙ none) in omega (arith, zero, all));
  registers = λ none _. (let zero = no_tags cleared (sym is ∙ none) in omega (arith, zero, all));
}

tells_memory : (s : State) (r : Reply) (cleared : ℕ) → takes_tags r ≡ not (cleared == 0) → tells_registers r ≡ false
    → cleared ≡ count_by (λ g. takes_tag (due s.heap) (cell_of g)) s.granules → TellsTags s r
tells_memory s r cleared is memory all = record {
  granules = λ none. sym all ∙ no_tags cleared (sym is ∙ none);
  registers = λ none looked. absurd (true≢false (sym looked ∙ memory));
}

closed_tags : (s : State) (cleared : ℕ) → s.heap.is_open ≡ false → cleared ≡ tags_taken s.heap.waiting s.granules s.registers → cleared ≡ tags_taken (due s.heap) s.granules s.registers
closed_tags s cleared closed is = is ∙ ap (λ (held : List Span). tags_taken held s.granules s.registers) (sym (due-closed s.heap closed))

-- ---- commands

Malloc-did : (s : State) (rd size start : ℕ) (r : Reply) (new : State) → Effect s (Malloc rd size) r new → Did s None start r new
Malloc-did s rd size start (Block base top) new e =
    handed_out size base top refl refl e.place e.end (ap (λ (x : State). x.granules) e.state) (ap (λ (x : State). x.heap) e.state)
Malloc-did s rd size start (BlockAfter base top cleared) new e =
    freed_and_handed_out size base top cleared refl refl (tells_all s (BlockAfter base top cleared) cleared refl (closed_tags s cleared e.0.may.closed e.0.cleared_is)) e.0.may.closed e.1.place e.1.end (ap (λ (x : State). x.granules) e.1.state) (ap (λ (x : State). x.heap) e.1.state)
Malloc-did s rd size start NoSpace new e =
    quiet (record { pass = refl; blocks = λ blocks at. refl; waiting = λ is_open waiting start. refl; painted = λ waiting painted. refl; is_open = λ is_open. refl }) (ap (λ (x : State). x.granules) e.1.state) (ap (λ (x : State). x.heap) e.1.state)
Malloc-did s rd size start (NoSpaceAfter cleared) new e =
    freed refl (record { pass = refl; blocks = λ blocks at. refl; waiting = λ is_open waiting start. refl; painted = λ waiting painted. refl; is_open = λ is_open. refl })
    (tells_all s (NoSpaceAfter cleared) cleared refl (closed_tags s cleared e.0.may.closed e.0.cleared_is))
    (ap (λ (x : State). x.granules) e.1.state ∙ ap (λ (held : List Span). swept_granules held s.granules) (sym (due-closed s.heap e.0.may.closed)))
    (ap (λ (x : State). x.heap) e.1.state ∙ sym (without_due-closed s.heap e.0.may.closed))
Malloc-did s rd size start (Held bytes) new e = absurd e
Malloc-did s rd size start Done new e = absurd e
Malloc-did s rd size start Cleared new e = absurd e
Malloc-did s rd size start (Swept cleared released) new e = absurd e
Malloc-did s rd size start (Begun cleared) new e = absurd e
Malloc-did s rd size start (Shown shown) new e = absurd e
Malloc-did s rd size start (Trap trap) new e = absurd e

-- A command that changes one register alone.
register_did : (s : State) (w : Option ℕ) (start : ℕ) (r told : Reply) (new after : State) → after.granules ≡ s.granules → after.heap ≡ s.heap → IsQuiet told → (r ≡ told) × (new ≡ after) → Did s w start r new
register_did s w start r told new after granules heap is step =
    quiet (quiet_if r told step.0 is) (ap (λ (x : State). x.granules) step.1 ∙ granules) (ap (λ (x : State). x.heap) step.1 ∙ heap)

-- A granule written.
write_did : (s : State) (i start : ℕ) (granule : Granule) (r : Reply) (new : State) → (r ≡ Done) × (new ≡ record s { granules = set s.granules i granule }) → Did s (Some i) start r new
write_did s i start granule r new step =
    wrote i refl (quiet_if r Done step.0 quiet_done) (ap (λ (x : State). x.heap) step.1)
    (ap (λ (x : State). length x.granules) step.1 ∙ length-set s.granules i granule)
    (λ k other. ap (λ (x : State). get_or x.granules k (0, false)) step.1 ∙ get_or-set_other s.granules i k granule (0, false) other)

Free-did : (s : State) (rs : ℕ) (r : Reply) (new : State) (tag held live : Bool) → tag ≡ (register s rs).1
    → is_block s.heap.live (bounds_in (register s rs).0).base (bounds_in (register s rs).0).top ≡ live
    → StepAfter (first_failed ((tag, Tag) ∷ (not held, Freed) ∷ (live, NotBlock) ∷ [])) s (Free rs) r new → Did s None (freed_base s (Free rs)) r new
Free-did s rs r new true false true is block step =
    let b = bounds_in (register s rs).0 in
    gave_up b.base b.top refl refl step.0 block (ap (λ (x : State). x.granules) step.1) (ap (λ (x : State). x.heap) step.1)
Free-did s rs r new true false false is block step = trapped s None _ r new NotBlock step
Free-did s rs r new true true live is block step = trapped s None _ r new Freed step
Free-did s rs r new false held live is block step = trapped s None _ r new Tag step

-- What is trapped or not, in one way or the other.
After-did : (t : Option TheTrap) (s : State) (c : Command) (w : Option ℕ) (start : ℕ) (r : Reply) (new : State) → (Effect s c r new → Did s w start r new) → StepAfter t s c r new → Did s w start r new
After-did None s c w start r new effect step = effect step
After-did (Some trap) s c w start r new effect step = trapped s w start r new trap step

Sweep-did : (is_open : Bool) (s : State) (r : Reply) (new : State) → s.heap.is_open ≡ is_open → StepAfter (first_failed ((not is_open, Open) ∷ [])) s Sweep r new → Did s None 0 r new
Sweep-did true s r new is step = trapped s None 0 r new Open step
Sweep-did false s r new closed step =
    freed refl (subst IsFreeing (sym step.0) (record { pass = refl; blocks = λ blocks at. refl; waiting = λ is_open waiting start. refl; painted = λ waiting painted. refl; is_open = λ is_open. refl }))
    (tells_all s r _ (ap takes_tags step.0) (closed_tags s _ closed refl))
    (ap (λ (x : State). x.granules) step.1 ∙ ap (λ (held : List Span). swept_granules held s.granules) (sym (due-closed s.heap closed)))
    (ap (λ (x : State). x.heap) step.1 ∙ sym (without_due-closed s.heap closed))

Begin-did : (is_open : Bool) (s : State) (r : Reply) (new : State) → s.heap.is_open ≡ is_open → StepAfter (first_failed ((not is_open, Open) ∷ [])) s Begin r new → Did s None 0 r new
Begin-did true s r new is step = trapped s None 0 r new Open step
Begin-did false s r new closed step =
    began _ refl step.0
    (tells_memory s r _ (ap takes_tags step.0) (ap tells_registers step.0) (ap (λ (held : List Span). count_by (λ (g : Granule). takes_tag held (cell_of g)) s.granules) (sym (due-closed s.heap closed))))
    closed (ap (λ (x : State). x.granules) step.1) (ap (λ (x : State). x.heap) step.1)

End-did : (is_open : Bool) (s : State) (r : Reply) (new : State) → s.heap.is_open ≡ is_open → StepAfter (first_failed ((is_open, NotOpen) ∷ [])) s End r new → Did s None 0 r new
End-did false s r new is step = trapped s None 0 r new NotOpen step
End-did true s r new opened step =
    freed refl (subst IsFreeing (sym step.0) (record { pass = refl; blocks = λ blocks at. refl; waiting = λ is_open waiting start. refl; painted = λ waiting painted. refl; is_open = λ is_open. refl }))
    (tells_all s r _ (ap takes_tags step.0) (ap (λ (held : List Span). tags_taken held s.granules s.registers) (sym (due-open s.heap opened))))
    (ap (λ (x : State). x.granules) step.1 ∙ ap (λ (held : List Span). swept_granules held s.granules) (sym (due-open s.heap opened)))
    (ap (λ (x : State). x.heap) step.1 ∙ sym (without_due-open s.heap opened))

pub Step-did : (s : State) (c : Command) (r : Reply) (new : State) → Step s c r new → Did s (written_granule s c) (freed_base s c) r new
Step-did s (Malloc rd size) r new step = Malloc-did s rd size 0 r new step
Step-did s (Free rs) r new step =
    let b = bounds_in (register s rs).0 in
    Free-did s rs r new (register s rs).1 (is_held_block s.heap b.base b.top) (is_block s.heap.live b.base b.top) refl refl step
Step-did s (Copy rd rs) r new step = register_did s None 0 r Done new _ refl refl quiet_done step
Step-did s (SetAddr rd rs a) r new step = register_did s None 0 r _ new _ refl refl (either_way _) step
Step-did s (Narrow rd rs n) r new step = After-did (first_failed (checks s (Narrow rd rs n))) s (Narrow rd rs n) None 0 r new (register_did s None 0 r Done new _ refl refl quiet_done) step
Step-did s (AndPerm rd rs mask) r new step = register_did s None 0 r Done new _ refl refl quiet_done step
Step-did s (StoreCap ra rs) r new step =
    After-did (first_failed (checks s (StoreCap ra rs))) s (StoreCap ra rs) (written_granule s (StoreCap ra rs)) 0 r new (write_did s (index_in s (register s ra).0) 0 _ r new) step
Step-did s (LoadCap rd ra) r new step = After-did (first_failed (checks s (LoadCap rd ra))) s (LoadCap rd ra) None 0 r new (register_did s None 0 r Done new _ refl refl quiet_done) step
Step-did s (Write ra bytes) r new step =
    After-did (first_failed (checks s (Write ra bytes))) s (Write ra bytes) (written_granule s (Write ra bytes)) 0 r new (write_did s (index_in s (register s ra).0) 0 _ r new) step
Step-did s (Show rs) r new step =
    quiet (quiet_if r _ step.0 (record { pass = refl; blocks = λ blocks at. refl; waiting = λ is_open waiting start. refl; painted = λ waiting painted. refl; is_open = λ is_open. refl })) (ap (λ (x : State). x.granules) step.1) (ap (λ (x : State). x.heap) step.1)
Step-did s Sweep r new step = Sweep-did s.heap.is_open s r new refl step
Step-did s Begin r new step = Begin-did s.heap.is_open s r new refl step
Step-did s End r new step = End-did s.heap.is_open s r new refl step
