-- Each step is allowed; and what is allowed leaves one state.
use Rattle.std.proofs.Common.{◌≡◌, ◌∙◌, ◌≤◌, ◌+◌, ◌-◌, ℕ, Option, Some, None, true, max, sym, ap, subst, arith}
use Rattle.std.proofs.Math.Nat.{le-max_left}
use Rattle.cap_codec.specs.Rounding.{IsExact}
use Rattle.cap_codec.specs.Words.{capability_of}
use Rattle.heap_model.specs.Heap.{HeapState, IsSound as IsSoundHeap}
use Rattle.heap_model.specs.Place.{IsFree, IsFreeBlock, block_length, with_block}
use Rattle.heap_model.specs.Quarantine.{without_waiting}
use Rattle.trace_text.specs.declared.trace.Command.{Command}
use Rattle.trace_text.specs.declared.trace.Command.TheVariants.{Malloc, Free, Copy, SetAddr, Narrow, AndPerm, StoreCap, LoadCap, Write, Show, Sweep, Begin, End}
use Rattle.heap_reply.specs.declared.reply.Reply.{Reply}
use Rattle.heap_reply.specs.declared.reply.Reply.TheVariants.{Block, BlockAfter, NoSpace, NoSpaceAfter, Held, Done, Cleared, Swept, Begun, Shown, Trap}
use Rattle.heap_reply.specs.declared.reply.Trap.{Trap as TheTrap}
use Rattle.machine_steps.specs.Follow.{Allows, Follows, FollowsAfter, MallocAllows, Places, Sweeps}
use Rattle.machine_steps.specs.State.{State, with_register}
use Rattle.machine_steps.specs.Step.{Effect, HandsOut, Step, StepAfter, SweepsFirst, checks, first_failed, after_sweep}

-- ---- steps

-- What the crate below says of the place of a block of a size.
pub record PlaceLaws : Type 0 where
  pub place : (s : HeapState) (size a : ℕ) → IsFree s size a → IsFreeBlock s a (block_length size)
  pub enough : (size : ℕ) → max 1 size ≤ block_length size
  pub exact : (s : HeapState) (size a : ℕ) → IsSoundHeap s → IsFree s size a → IsExact a (a + block_length size)
  pub free : (s : HeapState) → IsSoundHeap s → IsSoundHeap (without_waiting s)

HandsOut-places : PlaceLaws → (old : State) (rd size base top : ℕ) (new : State) → IsSoundHeap old.heap → HandsOut old rd size base top new → Places old rd size base top new
HandsOut-places laws old rd size base top new sound out =
    let enough = laws.enough size in
    let some : 1 ≤ max 1 size = le-max_left 1 size in
    let length : block_length size ≡ top - base = omega (arith, out.end) in
    record {
      may = record {
        order = omega (arith, out.end, enough, some);
        free = subst (IsFreeBlock old.heap base) length (laws.place old.heap size base out.place.free);
        exact = subst (IsExact base) (sym out.end) (laws.exact old.heap size base sound out.place.free);
      };
      enough = omega (arith, out.end, enough);
      state = out.state ∙ ap (λ (n : ℕ). record (with_register old rd (capability_of base top, true)) { heap = with_block old.heap base n }) length;
    }

SweepsFirst-sweeps : (old : State) (size cleared : ℕ) → SweepsFirst old size cleared → Sweeps old cleared
SweepsFirst-sweeps old size cleared first = record { may = first.may; cleared_is = first.cleared_is }

Malloc-allows : PlaceLaws → (old : State) (rd size : ℕ) (r : Reply) (new : State) → IsSoundHeap old.heap → Effect old (Malloc rd size) r new → MallocAllows old rd size r new
Malloc-allows laws old rd size (Block base top) new sound effect = HandsOut-places laws old rd size base top new sound effect
Malloc-allows laws old rd size (BlockAfter base top cleared) new sound effect =
    (SweepsFirst-sweeps old size cleared effect.0, HandsOut-places laws (after_sweep old) rd size base top new (laws.free old.heap sound) effect.1)
Malloc-allows laws old rd size NoSpace new sound effect = record { state = effect.1.state }
Malloc-allows laws old rd size (NoSpaceAfter cleared) new sound effect = (SweepsFirst-sweeps old size cleared effect.0, record { state = effect.1.state })
Malloc-allows laws old rd size (Held bytes) new sound effect = effect
Malloc-allows laws old rd size Done new sound effect = effect
Malloc-allows laws old rd size Cleared new sound effect = effect
Malloc-allows laws old rd size (Swept cleared released) new sound effect = effect
Malloc-allows laws old rd size (Begun cleared) new sound effect = effect
Malloc-allows laws old rd size (Shown shown) new sound effect = effect
Malloc-allows laws old rd size (Trap trap) new sound effect = effect

Effect-allows : PlaceLaws → (old : State) (c : Command) (r : Reply) (new : State) → IsSoundHeap old.heap → Effect old c r new → Allows old c r new
Effect-allows laws old (Malloc rd size) r new sound effect = Malloc-allows laws old rd size r new sound effect
Effect-allows laws old (Free rs) r new sound effect = effect
Effect-allows laws old (Copy rd rs) r new sound effect = effect
Effect-allows laws old (SetAddr rd rs a) r new sound effect = effect
Effect-allows laws old (Narrow rd rs n) r new sound effect = effect
Effect-allows laws old (AndPerm rd rs mask) r new sound effect = effect
Effect-allows laws old (StoreCap ra rs) r new sound effect = effect
Effect-allows laws old (LoadCap rd ra) r new sound effect = effect
Effect-allows laws old (Write ra bytes) r new sound effect = effect
Effect-allows laws old (Show rs) r new sound effect = effect
Effect-allows laws old Sweep r new sound effect = effect
Effect-allows laws old Begin r new sound effect = effect
Effect-allows laws old End r new sound effect = effect

StepAfter-follows : PlaceLaws → (t : Option TheTrap) (old : State) (c : Command) (r : Reply) (new : State) → IsSoundHeap old.heap → StepAfter t old c r new → FollowsAfter t old c r new
StepAfter-follows laws None old c r new sound step = Effect-allows laws old c r new sound step
StepAfter-follows laws (Some t) old c r new sound step = step

pub Step-follows : PlaceLaws → (old : State) (c : Command) (r : Reply) (new : State) → IsSoundHeap old.heap → Step old c r new → Follows old c r new
Step-follows laws old c r new sound step = StepAfter-follows laws (first_failed (checks old c)) old c r new sound step

-- ---- one state

Malloc-leaves_one : (old : State) (rd size : ℕ) (r : Reply) (m n : State) → MallocAllows old rd size r m → MallocAllows old rd size r n → m ≡ n
Malloc-leaves_one old rd size (Block base top) m n p q = p.state ∙ sym q.state
Malloc-leaves_one old rd size (BlockAfter base top cleared) m n p q = p.1.state ∙ sym q.1.state
Malloc-leaves_one old rd size NoSpace m n p q = p.state ∙ sym q.state
Malloc-leaves_one old rd size (NoSpaceAfter cleared) m n p q = p.1.state ∙ sym q.1.state
Malloc-leaves_one old rd size (Held bytes) m n p q = absurd p
Malloc-leaves_one old rd size Done m n p q = absurd p
Malloc-leaves_one old rd size Cleared m n p q = absurd p
Malloc-leaves_one old rd size (Swept cleared released) m n p q = absurd p
Malloc-leaves_one old rd size (Begun cleared) m n p q = absurd p
Malloc-leaves_one old rd size (Shown shown) m n p q = absurd p
Malloc-leaves_one old rd size (Trap trap) m n p q = absurd p

Allows-one : (old : State) (c : Command) (r : Reply) (m n : State) → Allows old c r m → Allows old c r n → m ≡ n
Allows-one old (Malloc rd size) r m n p q = Malloc-leaves_one old rd size r m n p q
Allows-one old (Free rs) r m n p q = p.1 ∙ sym q.1
Allows-one old (Copy rd rs) r m n p q = p.1 ∙ sym q.1
Allows-one old (SetAddr rd rs a) r m n p q = p.1 ∙ sym q.1
Allows-one old (Narrow rd rs length) r m n p q = p.1 ∙ sym q.1
Allows-one old (AndPerm rd rs mask) r m n p q = p.1 ∙ sym q.1
Allows-one old (StoreCap ra rs) r m n p q = p.1 ∙ sym q.1
Allows-one old (LoadCap rd ra) r m n p q = p.1 ∙ sym q.1
Allows-one old (Write ra bytes) r m n p q = p.1 ∙ sym q.1
Allows-one old (Show rs) r m n p q = p.1 ∙ sym q.1
Allows-one old Sweep r m n p q = p.1 ∙ sym q.1
Allows-one old Begin r m n p q = p.1 ∙ sym q.1
Allows-one old End r m n p q = p.1 ∙ sym q.1

FollowsAfter-one : (t : Option TheTrap) (old : State) (c : Command) (r : Reply) (m n : State) → FollowsAfter t old c r m → FollowsAfter t old c r n → m ≡ n
FollowsAfter-one None old c r m n p q = Allows-one old c r m n p q
FollowsAfter-one (Some t) old c r m n p q = p.1 ∙ sym q.1

pub Follows-one : (old : State) (c : Command) (r : Reply) (m n : State) → Follows old c r m → Follows old c r n → m ≡ n
Follows-one old c r m n p q = FollowsAfter-one (first_failed (checks old c)) old c r m n p q
