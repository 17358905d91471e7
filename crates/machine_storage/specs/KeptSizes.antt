-- The sizes of a state's parts, which no step changes.
use Rattle.std.proofs.Common.{◌≡◌, ◌∙◌, ◌*◌, ◌-◌, ℕ, Bool, true, false, Option, Some, None, length, set, get_or, cond, eqb, refl, sym, ap, subst, arith}
use Rattle.std.specs.Prelude.{◌≢◌, List, Result, Ok, Err, IfOk, OnErr, OnOk}
use Rattle.std.proofs.lemmas.Bool.{eq-eqb, true≢false}
use Rattle.std.proofs.lemmas.List.{get_or-map, get_or-set_other, length-map, length-set}
use Rattle.cap_codec.specs.declared.word.Word.{Word}
use Rattle.heap_model.specs.Place.{with_block}
use Rattle.heap_model.specs.Sweep.{swept_cell, swept_granule}
use Rattle.tag_memory.specs.Cells.{Cell, Granule, null_cell}
use Rattle.trace_text.specs.declared.trace.Command.{Command}
use Rattle.trace_text.specs.declared.trace.Command.TheVariants.{Malloc, Free, Copy, SetAddr, Narrow, AndPerm, StoreCap, LoadCap, Write, Show, Sweep, Begin, End}
use Rattle.machine_storage.specs.declared.followed.Followed.{Followed}
use Rattle.machine_storage.specs.declared.followed.Followed.TheVariants.{Agrees, Differs}
use Rattle.machine_storage.specs.declared.storage.Storage.{Storage}
use Rattle.machine_storage.specs.declared.fault.MachineFault.{MachineFault}
use Rattle.heap_reply.specs.declared.reply.Reply.{Reply}
use Rattle.heap_reply.specs.declared.reply.Reply.TheVariants.{Block, BlockAfter, NoSpace, NoSpaceAfter, Held, Done, Cleared, Swept, Begun, Shown, Trap}
use Rattle.heap_reply.specs.declared.reply.Trap.{Trap as TheTrap}
use Rattle.machine_steps.specs.Dirty.{HasPages, IsDirtied, dirty_after}
use Rattle.machine_storage.specs.Followed.{IsFollowed}
use Rattle.machine_storage.specs.Storage.{IsStorage, state_of}
use Rattle.machine_steps.specs.Safety.{FitsTypes, IsSafe}
use Rattle.machine_steps.specs.Sound.{IsMachine}
use Rattle.machine_steps.specs.State.{State, with_register}
use Rattle.machine_steps.specs.Follow.{Allows, Follows, FollowsAfter, MallocAllows, Places, PlacesNone}
use Rattle.machine_steps.specs.Step.{checks, first_failed, after_begin, after_end, index_in, after_sweep, with_granule}

record HasSizes (s : State) : Type 0 where
  pub granules : 16 * length s.granules ≡ s.heap.size
  pub count : length s.registers ≡ 32
  pub zero : get_or s.registers 0 null_cell ≡ null_cell

HasSizes-with : (s : State) (r : ℕ) (c : Cell) → HasSizes s → HasSizes (with_register s r c)
HasSizes-with s r c sizes = go (eqb r 0) refl where
  go : (first : Bool) → eqb r 0 ≡ first → HasSizes (record s { registers = cond first s.registers (set s.registers r c) })
  go true is = sizes
  go false is = record {
    granules = sizes.granules;
    count = length-set s.registers r c ∙ sizes.count;
    zero = get_or-set_other s.registers r 0 c null_cell (λ e. absurd (true≢false (sym (eq-eqb r 0 (sym e)) ∙ is))) ∙ sizes.zero;
  }

HasSizes-put : (s : State) (w : Word) (granule : Granule) → HasSizes s → HasSizes (with_granule s w granule)
HasSizes-put s w granule sizes = record {
  granules = ap (λ n. 16 * n) (length-set s.granules (index_in s w) granule) ∙ sizes.granules;
  count = sizes.count;
  zero = sizes.zero;
}

HasSizes-swept : (s : State) → HasSizes s → HasSizes (after_sweep s)
HasSizes-swept s sizes = record {
  granules = ap (λ n. 16 * n) (length-map s.granules (swept_granule s.heap.waiting)) ∙ sizes.granules;
  count = length-map s.registers (swept_cell s.heap.waiting) ∙ sizes.count;
  zero = get_or-map (swept_cell s.heap.waiting) s.registers 0 null_cell null_cell (omega (arith, sizes.count)) ∙ ap (swept_cell s.heap.waiting) sizes.zero;
}

HasSizes-begun : (s : State) → HasSizes s → HasSizes (after_begin s)
HasSizes-begun s sizes = record {
  granules = ap (λ n. 16 * n) (length-map s.granules (swept_granule s.heap.waiting)) ∙ sizes.granules;
  count = sizes.count;
  zero = sizes.zero;
}

HasSizes-ended : (s : State) → HasSizes s → HasSizes (after_end s)
HasSizes-ended s sizes = record {
  granules = ap (λ n. 16 * n) (length-map s.granules (swept_granule s.heap.painted)) ∙ sizes.granules;
  count = length-map s.registers (swept_cell s.heap.painted) ∙ sizes.count;
  zero = get_or-map (swept_cell s.heap.painted) s.registers 0 null_cell null_cell (omega (arith, sizes.count)) ∙ ap (swept_cell s.heap.painted) sizes.zero;
}

HasSizes-live : (s : State) (a n : ℕ) → HasSizes s → HasSizes (record s { heap = with_block s.heap a n })
HasSizes-live s a n sizes = record { granules = sizes.granules; count = sizes.count; zero = sizes.zero }

Places-sizes : (old : State) (rd size base top : ℕ) (new : State) → HasSizes old → Places old rd size base top new → HasSizes new
Places-sizes old rd size base top new sizes out =
    subst HasSizes (sym out.state) (HasSizes-with (record old { heap = with_block old.heap base (top - base) }) rd _ (HasSizes-live old base (top - base) sizes))

PlacesNone-sizes : (old : State) (rd : ℕ) (new : State) → HasSizes old → PlacesNone old rd new → HasSizes new
PlacesNone-sizes old rd new sizes out = subst HasSizes (sym out.state) (HasSizes-with old rd null_cell sizes)

Malloc-sizes : (old : State) (rd size : ℕ) (r : Reply) (new : State) → HasSizes old → MallocAllows old rd size r new → HasSizes new
Malloc-sizes old rd size (Block base top) new sizes effect = Places-sizes old rd size base top new sizes effect
Malloc-sizes old rd size (BlockAfter base top cleared) new sizes effect = Places-sizes (after_sweep old) rd size base top new (HasSizes-swept old sizes) effect.1
Malloc-sizes old rd size NoSpace new sizes effect = PlacesNone-sizes old rd new sizes effect
Malloc-sizes old rd size (NoSpaceAfter cleared) new sizes effect = PlacesNone-sizes (after_sweep old) rd new (HasSizes-swept old sizes) effect.1
Malloc-sizes old rd size (Held bytes) new sizes effect = absurd effect
Malloc-sizes old rd size Done new sizes effect = absurd effect
Malloc-sizes old rd size Cleared new sizes effect = absurd effect
Malloc-sizes old rd size (Swept cleared released) new sizes effect = absurd effect
Malloc-sizes old rd size (Begun cleared) new sizes effect = absurd effect
Malloc-sizes old rd size (Shown shown) new sizes effect = absurd effect
Malloc-sizes old rd size (Trap trap) new sizes effect = absurd effect

Allows-sizes : (old : State) (c : Command) (r : Reply) (new : State) → HasSizes old → Allows old c r new → HasSizes new
Allows-sizes old (Malloc rd size) r new sizes effect = Malloc-sizes old rd size r new sizes effect
Allows-sizes old (Free rs) r new sizes effect = subst HasSizes (sym effect.1) (record { granules = sizes.granules; count = sizes.count; zero = sizes.zero })
Allows-sizes old (Copy rd rs) r new sizes effect = subst HasSizes (sym effect.1) (HasSizes-with old rd _ sizes)
Allows-sizes old (SetAddr rd rs a) r new sizes effect = subst HasSizes (sym effect.1) (HasSizes-with old rd _ sizes)
Allows-sizes old (Narrow rd rs n) r new sizes effect = subst HasSizes (sym effect.1) (HasSizes-with old rd _ sizes)
Allows-sizes old (AndPerm rd rs mask) r new sizes effect = subst HasSizes (sym effect.1) (HasSizes-with old rd _ sizes)
Allows-sizes old (StoreCap ra rs) r new sizes effect = subst HasSizes (sym effect.1) (HasSizes-put old _ _ sizes)
Allows-sizes old (LoadCap rd ra) r new sizes effect = subst HasSizes (sym effect.1) (HasSizes-with old rd _ sizes)
Allows-sizes old (Write ra bytes) r new sizes effect = subst HasSizes (sym effect.1) (HasSizes-put old _ _ sizes)
Allows-sizes old (Show rs) r new sizes effect = subst HasSizes (sym effect.1) sizes
Allows-sizes old Sweep r new sizes effect = subst HasSizes (sym effect.1) (HasSizes-swept old sizes)
Allows-sizes old Begin r new sizes effect = subst HasSizes (sym effect.1) (HasSizes-begun old sizes)
Allows-sizes old End r new sizes effect = subst HasSizes (sym effect.1) (HasSizes-ended old sizes)

FollowsAfter-sizes : (t : Option TheTrap) (old : State) (c : Command) (r : Reply) (new : State) → HasSizes old → FollowsAfter t old c r new → HasSizes new
FollowsAfter-sizes None old c r new sizes step = Allows-sizes old c r new sizes step
FollowsAfter-sizes (Some t) old c r new sizes step = subst HasSizes (sym step.1) sizes

-- What is allowed and leads to a safe state leads to a sound state.
Follows-sound : (old : State) (c : Command) (r : Reply) (new : State) → IsMachine old → IsSafe new → Follows old c r new → IsMachine new
Follows-sound old c r new sound safe step =
    let before : HasSizes old = record { granules = sound.granules; count = sound.count; zero = sound.zero } in
    let sizes = FollowsAfter-sizes (first_failed (checks old c)) old c r new before step in
    record { granules = sizes.granules; count = sizes.count; zero = sizes.zero; safe = safe }

-- The parts of a machine after a command, or after want of memory.
pub IsStorage-after : ((s : State) (c : Command) (r : Reply) (t : State) → IsSafe s → FitsTypes c → Follows s c r t → IsSafe t)
    → ((s : State) (c : Command) (r : Reply) (t : State) (dirty : List Bool) → HasPages s dirty → IsDirtied s dirty → Follows s c r t → IsDirtied t (dirty_after s c dirty))
    → (old new : Storage) (c : Command) (result : Result Reply MachineFault) → IsStorage old → HasPages (state_of old) old.memory.dirty → FitsTypes c
    → IfOk result (λ r. Follows (state_of old) c r (state_of new)) → OnOk result (new.memory.dirty ≡ dirty_after (state_of old) c old.memory.dirty)
    → OnErr result (new ≡ old) → new.memory.base ≡ new.heap.base → IsStorage new
IsStorage-after safely dirtied old new c (Ok r) storage pages fits follows marks err base =
    let safe = safely (state_of old) c r (state_of new) storage.sound.safe fits follows in
    record {
      base = base;
      sound = Follows-sound (state_of old) c r (state_of new) storage.sound safe follows;
      dirtied = subst (IsDirtied (state_of new)) (sym marks) (dirtied (state_of old) c r (state_of new) old.memory.dirty pages storage.dirtied follows);
    }
IsStorage-after safely dirtied old new c (Err fault) storage pages fits follows marks err base = subst IsStorage (sym err) storage

-- The parts after a command that was answered: the answer agrees, or nothing has changed.
pub IsStorage-followed : ((s : State) (c : Command) (r : Reply) (t : State) → IsSafe s → FitsTypes c → Follows s c r t → IsSafe t)
    → ((s : State) (c : Command) (r : Reply) (t : State) (dirty : List Bool) → HasPages s dirty → IsDirtied s dirty → Follows s c r t → IsDirtied t (dirty_after s c dirty))
    → (old new : Storage) (c : Command) (answer : Reply) (result : Result Followed MachineFault) → IsStorage old → HasPages (state_of old) old.memory.dirty → FitsTypes c
    → IfOk result (λ followed. IsFollowed (state_of old) c answer followed (state_of new))
    → (result ≡ Ok Agrees → new.memory.dirty ≡ dirty_after (state_of old) c old.memory.dirty) → (result ≢ Ok Agrees → new ≡ old) → new.memory.base ≡ new.heap.base → IsStorage new
IsStorage-followed safely dirtied old new c answer (Ok Agrees) storage pages fits followed marks still base =
    IsStorage-after safely dirtied old new c (Ok answer) storage pages fits followed (marks refl) tt base
IsStorage-followed safely dirtied old new c answer (Ok (Differs why)) storage pages fits followed marks still base = subst IsStorage (sym (still (λ is. absurd cc))) storage
IsStorage-followed safely dirtied old new c answer (Err fault) storage pages fits followed marks still base = subst IsStorage (sym (still (λ is. absurd cc))) storage

-- What holds of an answer that agrees.
pub Agrees-holds : (P : Type 0) (old new : State) (c : Command) (answer : Reply) (result : Result Followed MachineFault)
    → IfOk result (λ followed. IsFollowed old c answer followed new) → (Follows old c answer new → P) → result ≡ Ok Agrees → P
Agrees-holds P old new c answer (Ok Agrees) followed holds is = holds followed
Agrees-holds P old new c answer (Ok (Differs why)) followed holds is = absurd cc
Agrees-holds P old new c answer (Err fault) followed holds is = absurd cc
