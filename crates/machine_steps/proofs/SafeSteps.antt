-- From a safe state each answer that is allowed leads to a safe one.
use Rattle.std.proofs.Common.{◌≡◌, ◌∙◌, ◌<◌, ◌≤◌, ◌+◌, ◌-◌, ◌&&◌, ◌^◌, ℕ, Bool, true, false, Option, Some, None, [], cond, refl, sym, subst, arith}
use Rattle.std.specs.Prelude.{◌↔◌, IsTrue, nat_le, not}
use Rattle.std.proofs.lemmas.Bool.{and_parts, leb-true}
use Rattle.cap_codec.specs.declared.word.Word.{Word}
use Rattle.cap_codec.specs.Rounding.{IsExact, outward_bounds}
use Rattle.heap_model.specs.Blocks.{is_block}
use Rattle.heap_model.specs.Heap.{HeapState, IsSound as IsSoundHeap}
use Rattle.heap_model.specs.Place.{IsFreeBlock, with_block}
use Rattle.heap_model.specs.Quarantine.{is_held_block, with_epoch, with_waiting, without_epoch, without_waiting}
use Rattle.tag_memory.specs.Cells.{null_cell}
use Rattle.trace_text.specs.declared.trace.Command.{Command}
use Rattle.trace_text.specs.declared.trace.Command.TheVariants.{Malloc, Free, Copy, SetAddr, Narrow, AndPerm, StoreCap, LoadCap, Write, Show, Sweep, Begin, End}
use Rattle.heap_reply.specs.declared.reply.Reply.{Reply}
use Rattle.heap_reply.specs.declared.reply.Reply.TheVariants.{Block, BlockAfter, NoSpace, NoSpaceAfter, Held, Done, Cleared, Swept, Begun, Shown, Trap}
use Rattle.heap_reply.specs.declared.reply.Trap.{Trap as TheTrap}
use Rattle.heap_reply.specs.declared.reply.Trap.TheVariants.{Open}
use Rattle.machine_steps.specs.Safety.{FitsTypes, IsSafe}
use Rattle.machine_steps.specs.State.{State, register}
use Rattle.cap_codec.specs.Words.{address_in, allows, bounds_in, capability_of, is_exact, keeps_bounds, lie_within, load_capability, narrowed_word, with_address, with_perms}
use Rattle.machine_steps.specs.Follow.{Allows, Follows, FollowsAfter, MallocAllows, Places, PlacesNone}
use Rattle.machine_steps.specs.Step.{Effect, checks, first_failed, granule_at, after_sweep}
use Rattle.machine_steps.specs.FreedBlock.{IsSafe-waiting}
use Rattle.machine_steps.specs.GuardLaws.{IsGuarded-kept, IsGuarded-narrowed, IsGuarded-untagged}
use Rattle.machine_steps.proofs.NewBlock.{IsSafe-new}
use Rattle.machine_steps.specs.SoundLaws.{FitsAddresses-state, HoldsGuarded-at, IsGuarded-register, IsSafe-put, IsSafe-with, LiesInside-register}
use Rattle.machine_steps.specs.SweptState.{IsSafe-begun, IsSafe-ended, IsSafe-swept}

-- What the crates below say of words and of heaps.
pub record Laws : Type 0 where
  pub live : (s : HeapState) (a length : ℕ) → IsSoundHeap s → IsFreeBlock s a length → IsSoundHeap (with_block s a length)
  pub waiting : (s : HeapState) (base top : ℕ) → IsSoundHeap s → is_block s.live base top ≡ true → IsSoundHeap (with_waiting s base top)
  pub free : (s : HeapState) → IsSoundHeap s → IsSoundHeap (without_waiting s)
  pub begun : (s : HeapState) → IsSoundHeap s → IsSoundHeap (with_epoch s)
  pub ended : (s : HeapState) → IsSoundHeap s → IsSoundHeap (without_epoch s)
  pub narrowed : (w : Word) (base top : ℕ) → base < 2 ^ 64 → base ≤ top → top ≤ 2 ^ 64 → bounds_in (narrowed_word w base top) ≡ outward_bounds base top
  pub capability : (base top : ℕ) → base < 2 ^ 64 → base ≤ top → top ≤ 2 ^ 64 → bounds_in (capability_of base top) ≡ outward_bounds base top
  pub tested : (base top : ℕ) → IsTrue (is_exact base top) ↔ IsExact base top
  pub moved : (w : Word) (a : ℕ) → a < 2 ^ 64 → IsTrue (keeps_bounds w a) → bounds_in (with_address w a) ≡ bounds_in w
  pub masked : (w : Word) (mask : ℕ) → bounds_in (with_perms w mask) ≡ bounds_in w

-- ---- checks that pass

all_three : (a b c : Bool) (x y z : TheTrap) → (if_failed : cond a (cond b (cond c None (Some z)) (Some y)) (Some x) ≡ None) → (a ≡ true) × (b ≡ true) × (c ≡ true)
all_three true true true x y z e = (refl, refl, refl)
all_three true true false x y z e = absurd cc
all_three true false c x y z e = absurd cc
all_three false b c x y z e = absurd cc

all_four : (a b c d : Bool) (x y z t : TheTrap) → cond a (cond b (cond c (cond d None (Some t)) (Some z)) (Some y)) (Some x) ≡ None
    → (a ≡ true) × (b ≡ true) × (c ≡ true) × (d ≡ true)
all_four true true true true x y z t e = (refl, refl, refl, refl)
all_four true true true false x y z t e = absurd cc
all_four true true false d x y z t e = absurd cc
all_four true false c d x y z t e = absurd cc
all_four false b c d x y z t e = absurd cc

-- ---- commands

Places-safe : Laws → (old : State) (rd size base top : ℕ) (new : State) → IsSafe old → Places old rd size base top new → IsSafe new
Places-safe laws old rd size base top new safe out =
    let free = out.may.free in
    let heap = laws.live old.heap base (top - base) safe.heap free in
    let fits = FitsAddresses-state old safe in
    let room : top ≤ 2 ^ 64 = omega (arith, free.end, fits.end, out.may.order) in
    let is = laws.capability base top (omega (arith, room, out.may.order)) (omega (arith, out.may.order)) room ∙ out.may.exact in
    subst IsSafe (sym out.state) (IsSafe-new old rd base top (capability_of base top) safe out.may.order heap is)

PlacesNone-safe : (old : State) (rd : ℕ) (new : State) → IsSafe old → PlacesNone old rd new → IsSafe new
PlacesNone-safe old rd new safe out = subst IsSafe (sym out.state) (IsSafe-with old rd null_cell safe (IsGuarded-untagged old.heap _))

swept-safe : Laws → (s : State) → IsSafe s → IsSafe (after_sweep s)
swept-safe laws s safe = IsSafe-swept s safe (laws.free s.heap safe.heap)

Malloc-safe : Laws → (old : State) (rd size : ℕ) (r : Reply) (new : State) → IsSafe old → MallocAllows old rd size r new → IsSafe new
Malloc-safe laws old rd size (Block base top) new safe effect = Places-safe laws old rd size base top new safe effect
Malloc-safe laws old rd size (BlockAfter base top cleared) new safe effect = Places-safe laws (after_sweep old) rd size base top new (swept-safe laws old safe) effect.1
Malloc-safe laws old rd size NoSpace new safe effect = PlacesNone-safe old rd new safe effect
Malloc-safe laws old rd size (NoSpaceAfter cleared) new safe effect = PlacesNone-safe (after_sweep old) rd new (swept-safe laws old safe) effect.1
Malloc-safe laws old rd size (Held bytes) new safe effect = absurd effect
Malloc-safe laws old rd size Done new safe effect = absurd effect
Malloc-safe laws old rd size Cleared new safe effect = absurd effect
Malloc-safe laws old rd size (Swept cleared released) new safe effect = absurd effect
Malloc-safe laws old rd size (Begun cleared) new safe effect = absurd effect
Malloc-safe laws old rd size (Shown shown) new safe effect = absurd effect
Malloc-safe laws old rd size (Trap trap) new safe effect = absurd effect

-- Where an epoch may begin no block is painted.
painted_none : (s : State) → IsSafe s → first_failed (checks s Begin) ≡ None → s.heap.painted ≡ []
painted_none s safe passed = safe.heap.closed (go s.heap.is_open passed) where
  go : (is_open : Bool) → cond (not is_open) None (Some Open) ≡ None → is_open ≡ false
  go true e = absurd cc
  go false e = refl

Narrow-safe : Laws → (old : State) (rd rs n : ℕ) (r : Reply) (new : State) → IsSafe old → first_failed (checks old (Narrow rd rs n)) ≡ None
    → Effect old (Narrow rd rs n) r new → IsSafe new
Narrow-safe laws old rd rs n r new safe passed effect =
    let c = register old rs in
    let a = address_in c.0 in
    let within = bounds_in c.0 in
    let all = all_four c.1 (nat_le 1 n) (lie_within within a n) (is_exact a (a + n)) _ _ _ _ passed in
    let ends = and_parts (nat_le within.base a) (nat_le (a + n) within.top) all.2 in
    let from : within.base ≤ a = leb-true within.base a ends.0 in
    let end : a + n ≤ within.top = leb-true (a + n) within.top ends.1 in
    let some : 1 ≤ n = leb-true 1 n all.1 in
    let inside = LiesInside-register old rs safe in
    let fits = FitsAddresses-state old safe in
    let room : a + n ≤ 2 ^ 64 = omega (arith, end, inside.end all.0, fits.end) in
    let is = laws.narrowed c.0 a (a + n) (omega (arith, room, some)) (omega arith) room ∙ (laws.tested a (a + n)).0 all.3 in
    let guarded = IsGuarded-narrowed old.heap (narrowed_word c.0 a (a + n)) true c a (a + n) (IsGuarded-register old rs safe) all.0 is from (omega (arith, some)) end in
    subst IsSafe (sym effect.1) (IsSafe-with old rd (narrowed_word c.0 a (a + n), true) safe guarded)

Allows-safe : Laws → (old : State) (c : Command) (r : Reply) (new : State) → IsSafe old → FitsTypes c → first_failed (checks old c) ≡ None → Allows old c r new → IsSafe new
Allows-safe laws old (Malloc rd size) r new safe fits passed effect = Malloc-safe laws old rd size r new safe effect
Allows-safe laws old (Free rs) r new safe fits passed effect =
    let c = register old rs in
    let b = bounds_in c.0 in
    let all = all_three c.1 (not (is_held_block old.heap b.base b.top)) (is_block old.heap.live b.base b.top) _ _ _ passed in
    subst IsSafe (sym effect.1) (IsSafe-waiting old b.base b.top safe (laws.waiting old.heap b.base b.top safe.heap all.2))
Allows-safe laws old (Copy rd rs) r new safe fits passed effect = subst IsSafe (sym effect.1) (IsSafe-with old rd (register old rs) safe (IsGuarded-register old rs safe))
Allows-safe laws old (SetAddr rd rs a) r new safe fits passed effect =
    let c = register old rs in
    let keeps = keeps_bounds c.0 a in
    let guarded = IsGuarded-kept old.heap (with_address c.0 a) (c.1 && keeps) c (IsGuarded-register old rs safe)
    (λ e. (and_parts c.1 keeps e).0) (λ e. laws.moved c.0 a fits (and_parts c.1 keeps e).1) in
    subst IsSafe (sym effect.1) (IsSafe-with old rd (with_address c.0 a, c.1 && keeps) safe guarded)
Allows-safe laws old (Narrow rd rs n) r new safe fits passed effect = Narrow-safe laws old rd rs n r new safe passed effect
Allows-safe laws old (AndPerm rd rs mask) r new safe fits passed effect =
    let c = register old rs in
    let guarded = IsGuarded-kept old.heap (with_perms c.0 mask) c.1 c (IsGuarded-register old rs safe) (λ e. e) (λ _. laws.masked c.0 mask) in
    subst IsSafe (sym effect.1) (IsSafe-with old rd (with_perms c.0 mask, c.1) safe guarded)
Allows-safe laws old (StoreCap ra rs) r new safe fits passed effect =
    let c = register old rs in
    subst IsSafe (sym effect.1) (IsSafe-put old (register old ra).0 (c.0.bits, c.1) safe (IsGuarded-register old rs safe))
Allows-safe laws old (LoadCap rd ra) r new safe fits passed effect =
    let w = (register old ra).0 in
    let granule = granule_at old w in
    let keeps = allows load_capability w in
    let guarded = IsGuarded-kept old.heap (record { bits = granule.0 }) (granule.1 && keeps) (record { bits = granule.0 }, granule.1) (HoldsGuarded-at old w safe)
    (λ e. (and_parts granule.1 keeps e).0) (λ _. refl) in
    subst IsSafe (sym effect.1) (IsSafe-with old rd (record { bits = granule.0 }, granule.1 && keeps) safe guarded)
Allows-safe laws old (Write ra bytes) r new safe fits passed effect = subst IsSafe (sym effect.1) (IsSafe-put old (register old ra).0 _ safe (IsGuarded-untagged old.heap _))
Allows-safe laws old (Show rs) r new safe fits passed effect = subst IsSafe (sym effect.1) safe
Allows-safe laws old Sweep r new safe fits passed effect = subst IsSafe (sym effect.1) (swept-safe laws old safe)
Allows-safe laws old Begin r new safe fits passed effect = subst IsSafe (sym effect.1) (IsSafe-begun old safe (laws.begun old.heap safe.heap) (painted_none old safe passed))
Allows-safe laws old End r new safe fits passed effect = subst IsSafe (sym effect.1) (IsSafe-ended old safe (laws.ended old.heap safe.heap))

FollowsAfter-safe : Laws → (t : Option TheTrap) (old : State) (c : Command) (r : Reply) (new : State) → IsSafe old → FitsTypes c → first_failed (checks old c) ≡ t
    → FollowsAfter t old c r new → IsSafe new
FollowsAfter-safe laws None old c r new safe fits passed step = Allows-safe laws old c r new safe fits passed step
FollowsAfter-safe laws (Some t) old c r new safe fits failed step = subst IsSafe (sym step.1) safe

pub Follows-safe : Laws → (old : State) (c : Command) (r : Reply) (new : State) → IsSafe old → FitsTypes c → Follows old c r new → IsSafe new
Follows-safe laws old c r new safe fits step = FollowsAfter-safe laws (first_failed (checks old c)) old c r new safe fits refl step
