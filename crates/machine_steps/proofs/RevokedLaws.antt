-- After a sweep each tagged word's bounds lie in a live block, and after the end of an epoch in a live or a waiting one.
use Rattle.std.proofs.Common.{◌≡◌, ◌∙◌, ℕ, Bool, true, false, cond, not, Option, Some, None, inl, inr, List, [], ◌∷◌, ap, refl, sym, subst, arith}
use Rattle.std.specs.List.{Contains}
use Rattle.std.proofs.lemmas.List.Elements.{All-weaker}
use Rattle.heap_model.specs.Blocks.{Span}
use Rattle.heap_model.specs.Heap.{HeapState}
use Rattle.tag_memory.specs.Cells.{Cell, cell_of}
use Rattle.trace_text.specs.declared.trace.Command.{Command}
use Rattle.trace_text.specs.declared.trace.Command.TheVariants.{Malloc, Free, Copy, SetAddr, Narrow, AndPerm, StoreCap, LoadCap, Write, Show, Sweep, Begin, End}
use Rattle.heap_reply.specs.declared.reply.Reply.{Reply}
use Rattle.heap_reply.specs.declared.reply.Reply.TheVariants.{Block, BlockAfter, NoSpace, NoSpaceAfter, Held, Done, Cleared, Swept, Begun, Shown, Trap}
use Rattle.heap_reply.specs.declared.reply.Trap.{Trap as TheTrap}
use Rattle.heap_reply.specs.declared.reply.Trap.TheVariants.{NotOpen, Open}
use Rattle.machine_steps.specs.Safety.{AreInUse, AreInUseOrWaiting, HoldsGuarded, IsGuarded, IsInUse, IsInUseOrWaiting, IsSafe, LeavesBlocksInUse, LeavesInUse, LeavesSwept, TellsNoSweep}
use Rattle.machine_steps.specs.State.{State}
use Rattle.machine_steps.specs.Follow.{Allows, Follows, FollowsAfter, MallocAllows}
use Rattle.machine_steps.specs.Step.{checks, first_failed}

nowhere : (blocks : List Span) (block : Span) → blocks ≡ [] → Contains blocks block → ⊥
nowhere blocks block none there = (let here : Contains [] block = subst (λ (bs : List Span). Contains bs block) none there in absurd (omega (arith, here.1)))

-- Where no block is painted, a guarded cell is in use, or its block waits.
IsInUseOrWaiting-guarded : (heap : HeapState) (c : Cell) → heap.painted ≡ [] → IsGuarded heap c → IsInUseOrWaiting heap c
IsInUseOrWaiting-guarded heap c none guarded = record {
  within = λ e.
      let x = guarded.within e in
      elim x.1 [
        | inl live ↦ (x.0, inl live, x.2)
        | inr held ↦ elim held [ inl waits ↦ (x.0, inr waits, x.2) | inr painted ↦ absurd (nowhere heap.painted x.0 none painted) ]
      ];
}

AreInUseOrWaiting-ended : (s : State) → IsSafe s → s.heap.painted ≡ [] → AreInUseOrWaiting s
AreInUseOrWaiting-ended s safe none = (
  All-weaker (IsGuarded s.heap) (IsInUseOrWaiting s.heap) (λ c. IsInUseOrWaiting-guarded s.heap c none) s.registers safe.registers,
  All-weaker (HoldsGuarded s.heap) (λ granule. IsInUseOrWaiting s.heap (cell_of granule)) (λ granule. IsInUseOrWaiting-guarded s.heap (cell_of granule) none) s.granules safe.granules,
)

-- And where none waits either it is in use.
IsInUse-guarded : (heap : HeapState) (c : Cell) → heap.waiting ≡ [] → IsInUseOrWaiting heap c → IsInUse heap c
IsInUse-guarded heap c none guarded = record {
  within = λ e. let x = guarded.within e in elim x.1 [ inl live ↦ (x.0, live, x.2) | inr waits ↦ absurd (nowhere heap.waiting x.0 none waits) ];
}

AreInUse-swept : (s : State) → IsSafe s → s.heap.is_open ≡ false → s.heap.waiting ≡ [] → AreInUse s
AreInUse-swept s safe closed none =
    let all = AreInUseOrWaiting-ended s safe (safe.heap.closed closed) in (
      All-weaker (IsInUseOrWaiting s.heap) (IsInUse s.heap) (λ c. IsInUse-guarded s.heap c none) s.registers all.0,
      All-weaker (λ granule. IsInUseOrWaiting s.heap (cell_of granule)) (λ granule. IsInUse s.heap (cell_of granule)) (λ granule. IsInUse-guarded s.heap (cell_of granule) none) s.granules all.1,
    )

-- ---- steps

-- A reply that is one of those.
silent : (r answer : Reply) → TellsNoSweep answer → r ≡ answer → TellsNoSweep r
silent r answer is same = subst TellsNoSweep (sym same) is

either_way : (t : Bool) → TellsNoSweep (cond t Cleared Done)
either_way true = tt
either_way false = tt

-- What a malloc leaves: after a sweep no block is held.
Malloc-leaves : (old : State) (rd size : ℕ) (r : Reply) (new : State) → IsSafe new → MallocAllows old rd size r new → LeavesBlocksInUse r new
Malloc-leaves old rd size (Block base top) new safe effect = tt
Malloc-leaves old rd size (BlockAfter base top cleared) new safe effect = AreInUse-swept new safe (ap (λ (s : State). s.heap.is_open) effect.1.state ∙ effect.0.may.closed) (ap (λ (s : State). s.heap.waiting) effect.1.state)
Malloc-leaves old rd size NoSpace new safe effect = tt
Malloc-leaves old rd size (NoSpaceAfter cleared) new safe effect = AreInUse-swept new safe (ap (λ (s : State). s.heap.is_open) effect.1.state ∙ effect.0.may.closed) (ap (λ (s : State). s.heap.waiting) effect.1.state)
Malloc-leaves old rd size (Held bytes) new safe effect = effect
Malloc-leaves old rd size Done new safe effect = effect
Malloc-leaves old rd size Cleared new safe effect = effect
Malloc-leaves old rd size (Swept cleared released) new safe effect = effect
Malloc-leaves old rd size (Begun cleared) new safe effect = effect
Malloc-leaves old rd size (Shown shown) new safe effect = effect
Malloc-leaves old rd size (Trap trap) new safe effect = effect

-- Where the command's checks pass, and where one fails.
After-silent : (t : Option TheTrap) (old : State) (c : Command) (r : Reply) (new : State)
    → (Allows old c r new → TellsNoSweep r) → FollowsAfter t old c r new → TellsNoSweep r
After-silent None old c r new effect step = effect step
After-silent (Some t) old c r new effect step = silent r (Trap t) tt step.0

-- A reply that tells of a sweep, or is a trap.
swept_reply : (P : State → Type 0) (r : Reply) (new : State) (cleared released : ℕ) → P new → r ≡ Swept cleared released → LeavesSwept P r new
swept_reply P r new cleared released holds same = subst (λ (reply : Reply). LeavesSwept P reply new) (sym same) holds

trapped : (P : State → Type 0) (r : Reply) (new : State) (t : TheTrap) → r ≡ Trap t → LeavesSwept P r new
trapped P r new t same = subst (λ (reply : Reply). LeavesSwept P reply new) (sym same) tt

-- A sweep is done where no epoch is open, and none is after it.
Sweep-leaves : (is_open : Bool) (old : State) (r : Reply) (new : State) → old.heap.is_open ≡ is_open → IsSafe new
    → FollowsAfter (first_failed ((not is_open, Open) ∷ [])) old Sweep r new → LeavesSwept AreInUse r new
Sweep-leaves true old r new opened safe step = trapped AreInUse r new Open step.0
Sweep-leaves false old r new closed safe step =
    swept_reply AreInUse r new _ _ (AreInUse-swept new safe (ap (λ (s : State). s.heap.is_open) step.1 ∙ closed) (ap (λ (s : State). s.heap.waiting) step.1)) step.0

End-leaves : (is_open : Bool) (old : State) (r : Reply) (new : State) → IsSafe new
    → FollowsAfter (first_failed ((is_open, NotOpen) ∷ [])) old End r new → LeavesSwept AreInUseOrWaiting r new
End-leaves true old r new safe step = swept_reply AreInUseOrWaiting r new _ _ (AreInUseOrWaiting-ended new safe (ap (λ (s : State). s.heap.painted) step.1)) step.0
End-leaves false old r new safe step = trapped AreInUseOrWaiting r new NotOpen step.0

pub Follows-revoked : (old : State) (c : Command) (r : Reply) (new : State) → IsSafe new → Follows old c r new → LeavesInUse c r new
Follows-revoked old (Malloc rd size) r new safe step = Malloc-leaves old rd size r new safe step
Follows-revoked old (Free rs) r new safe step = After-silent (first_failed (checks old (Free rs))) old (Free rs) r new (λ e. silent r _ tt e.0) step
Follows-revoked old (Copy rd rs) r new safe step = silent r Done tt step.0
Follows-revoked old (SetAddr rd rs a) r new safe step = silent r _ (either_way _) step.0
Follows-revoked old (Narrow rd rs n) r new safe step = After-silent (first_failed (checks old (Narrow rd rs n))) old (Narrow rd rs n) r new (λ e. silent r Done tt e.0) step
Follows-revoked old (AndPerm rd rs mask) r new safe step = silent r Done tt step.0
Follows-revoked old (StoreCap ra rs) r new safe step = After-silent (first_failed (checks old (StoreCap ra rs))) old (StoreCap ra rs) r new (λ e. silent r Done tt e.0) step
Follows-revoked old (LoadCap rd ra) r new safe step = After-silent (first_failed (checks old (LoadCap rd ra))) old (LoadCap rd ra) r new (λ e. silent r Done tt e.0) step
Follows-revoked old (Write ra bytes) r new safe step = After-silent (first_failed (checks old (Write ra bytes))) old (Write ra bytes) r new (λ e. silent r Done tt e.0) step
Follows-revoked old (Show rs) r new safe step = silent r _ tt step.0
Follows-revoked old Sweep r new safe step = Sweep-leaves old.heap.is_open old r new refl safe step
Follows-revoked old Begin r new safe step = After-silent (first_failed (checks old Begin)) old Begin r new (λ e. silent r _ tt e.0) step
Follows-revoked old End r new safe step = End-leaves old.heap.is_open old r new safe step
