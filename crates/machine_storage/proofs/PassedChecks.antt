-- Commands whose checks pass are done as their effect says.
use Rattle.std.proofs.Common.{◌≡◌, ◌∙◌, ◌<◌, ◌^◌, ℕ, Bool, true, false, cond, not, Option, Some, None, List, [], get_or, refl, sym, ap, subst, arith}
use Rattle.std.specs.Prelude.{count_ones, sum_by}
use Rattle.heap_model.specs.Blocks.{bytes_in}
use Rattle.heap_model.specs.Heap.{IsSound, held_bytes}
use Rattle.heap_model.specs.Sweep.{takes_tag}
use Rattle.sweep_masks.specs.Masks.{TakeTags}
use Rattle.tag_memory.specs.Cells.{Granule, MemoryState, cell_of}
use Rattle.trace_text.specs.declared.trace.Command.{Command}
use Rattle.trace_text.specs.declared.trace.Command.TheVariants.{Begin, Sweep, End}
use Rattle.heap_reply.specs.declared.reply.Reply.{Reply}
use Rattle.heap_reply.specs.declared.reply.Reply.TheVariants.{Begun, Swept}
use Rattle.heap_reply.specs.declared.reply.Trap.{Trap}
use Rattle.heap_reply.specs.declared.reply.Trap.TheVariants.{NotOpen, Open}
use Rattle.heap_reply.specs.declared.reply.Reply.TheVariants as reply
use Rattle.machine_steps.specs.Dirty.{dirty_by}
use Rattle.machine_steps.specs.State.{State}
use Rattle.machine_storage.specs.Decision.{IsDecision}
use Rattle.machine_storage.specs.Storage.{state_of}
use Rattle.machine_storage.specs.declared.storage.Storage.{Storage}
use Rattle.machine_storage.specs.declared.storage.decision.Change.TheVariants.{Nothing}
use Rattle.machine_steps.specs.Step.{Effect, Step, StepAfter, after_begin, begin_takes, checks, first_failed}
use Rattle.machine_steps.specs.SweptState.{no_blocks, swept-none, tags_taken-none, taken_at_begin-none}
use Rattle.machine_storage.proofs.CountLaws.{ones-masks}

pub Step-passed : (old : State) (c : Command) (r : Reply) (new : State) → first_failed (checks old c) ≡ None → Effect old c r new → Step old c r new
Step-passed old c r new passed effect = subst (λ (t : Option Trap). StepAfter t old c r new) (sym passed) effect

none_open : (is_open : Bool) → is_open ≡ false → cond (not is_open) None (Some Open) ≡ None
none_open true closed = absurd cc
none_open false closed = refl

-- Without an epoch a sweep is done, and one may begin.
pub sweep_passes : (s : State) → s.heap.is_open ≡ false → first_failed (checks s Sweep) ≡ None
sweep_passes s closed = none_open s.heap.is_open closed

pub begin_passes : (s : State) → s.heap.is_open ≡ false → first_failed (checks s Begin) ≡ None
begin_passes s closed = none_open s.heap.is_open closed

-- In an open epoch it may end.
one_open : (is_open : Bool) → is_open ≡ true → cond is_open None (Some NotOpen) ≡ None
one_open true opened = refl
one_open false opened = absurd cc

pub end_passes : (s : State) → s.heap.is_open ≡ true → first_failed (checks s End) ≡ None
end_passes s opened = one_open s.heap.is_open opened

-- What the masks of memory take when an epoch begins.
pub Begun-taken : (s : State) (m : MemoryState) (masks : List ℕ) (cleared : ℕ) → s.heap.is_open ≡ false → m.granules ≡ s.granules
    → TakeTags m s.heap.waiting masks → ((w : ℕ) → get_or masks w 0 < 2 ^ 64) → cleared ≡ sum_by count_ones masks → Step s Begin (Begun cleared) (after_begin s)
Begun-taken s m masks cleared closed same take fits told =
    let ones = ones-masks (λ (g : Granule). takes_tag s.heap.waiting (cell_of g)) masks m.granules (0, false) take.count fits take.bits in
    let all : cleared ≡ begin_takes s = told ∙ (rw same at ones) in
    Step-passed s Begin (Begun cleared) (after_begin s) (begin_passes s closed) (ap Begun all, refl)

-- Where no block waits an epoch begins without a tag taken.
pub Begun-none : (s : State) → IsSound s.heap → s.heap.is_open ≡ false → held_bytes s.heap ≡ 0 → Step s Begin (Begun 0) (after_begin s)
Begun-none s sound closed bytes =
    Step-passed s Begin (Begun 0) (after_begin s) (begin_passes s closed) (λ i. Begun (sym (taken_at_begin-none s (no_blocks s.heap sound bytes)) i), refl)

-- And a sweep does nothing.
pub Swept-none : (s : State) → IsSound s.heap → s.heap.is_open ≡ false → held_bytes s.heap ≡ 0 → Step s Sweep (Swept 0 0) s
Swept-none s sound closed bytes =
    let none : s.heap.waiting ≡ [] = no_blocks s.heap sound bytes in
    let free : bytes_in s.heap.waiting ≡ 0 = omega (arith, bytes) in
    Step-passed s Sweep (Swept 0 0) s (sweep_passes s closed) (λ i. Swept (sym (tags_taken-none s none) i) (sym free i), sym (swept-none s none))

-- A check that fails is answered by its trap, and changes nothing.
pub trapped : (m : Storage) (c : Command) (t : Trap) → first_failed (checks (state_of m) c) ≡ Some t → IsDecision m c (record { reply = reply.Trap t; change = Nothing })
trapped m c t failed =
    let s = state_of m in
    record {
      step = subst (λ (it : Option Trap). StepAfter it s c (reply.Trap t) s) (sym failed) (refl, refl);
      can = tt;
      dirty = sym (ap (λ (it : Option Trap). dirty_by it s c m.memory.dirty) failed);
    }
