-- A block is handed out only where no tagged word has its base in it.
use Rattle.std.proofs.Common.{◌≡◌, ◌<◌, ◌≤◌, ◌+◌, ◌-◌, ℕ, Bool, true, false, cond, Option, Some, None, inl, inr, sym, subst, arith}
use Rattle.std.proofs.lemmas.List.Elements.{All-contains, All-weaker}
use Rattle.cap_codec.specs.declared.word.Bounds.{Bounds}
use Rattle.heap_model.specs.Blocks.{IsApart, Span}
use Rattle.heap_model.specs.Heap.{HeapState}
use Rattle.heap_model.specs.Place.{IsFreeBlock}
use Rattle.tag_memory.specs.Cells.{Cell, cell_of}
use Rattle.trace_text.specs.declared.trace.Command.{Command}
use Rattle.trace_text.specs.declared.trace.Command.TheVariants.{Malloc, Free, Copy, SetAddr, Narrow, AndPerm, StoreCap, LoadCap, Write, Show, Sweep, Begin, End}
use Rattle.heap_reply.specs.declared.reply.Reply.{Reply}
use Rattle.heap_reply.specs.declared.reply.Reply.TheVariants.{Block, BlockAfter, NoSpace, NoSpaceAfter, Held, Done, Cleared, Swept, Begun, Shown, Trap}
use Rattle.heap_reply.specs.declared.reply.Trap.{Trap as TheTrap}
use Rattle.machine_steps.specs.Safety.{HandsOutNothing, HasBaseIn, HasNoBase, HoldsGuarded, IsGuarded, IsLiveOrHeld, IsSafe, IsUnused, IsUnusedBlock, LieIn}
use Rattle.machine_steps.specs.State.{State}
use Rattle.cap_codec.specs.Words.{bounds_in}
use Rattle.machine_steps.specs.Follow.{Allows, Follows, FollowsAfter, MallocAllows, Places}
use Rattle.machine_steps.specs.Step.{checks, first_failed, after_sweep}

-- ---- a new block

-- A free block shares no address with a block.
IsApart-block : (heap : HeapState) (a n : ℕ) (block : Span) → IsFreeBlock heap a n → IsLiveOrHeld heap block → IsApart (a, n) block
IsApart-block heap a n block free (inl live) = All-contains (IsApart (a, n)) heap.live block free.live live
IsApart-block heap a n block free (inr (inl waits)) = All-contains (IsApart (a, n)) heap.waiting block free.waiting waits
IsApart-block heap a n block free (inr (inr painted)) = All-contains (IsApart (a, n)) heap.painted block free.painted painted

no_base : (a n : ℕ) (bounds : Bounds) (block : Span) → IsApart (a, n) block → LieIn bounds block → a ≤ bounds.base → bounds.base < a + n → ⊥
no_base a n bounds block (inl before) lie from end = absurd (omega (arith, lie.start))
no_base a n bounds block (inr after) lie from end = absurd (omega (arith, lie.some, lie.end))

-- So no guarded cell has its base there.
no_guarded : (heap : HeapState) (a n : ℕ) (c : Cell) → IsFreeBlock heap a n → IsGuarded heap c → HasBaseIn a (a + n) c → ⊥
no_guarded heap a n c free guarded has =
    let x = guarded.within has.tagged in
    no_base a n (bounds_in c.0) x.0 (IsApart-block heap a n x.0 free x.1) x.2 has.from has.before

HasNoBase-free : (s : State) (base n top : ℕ) → IsSafe s → IsFreeBlock s.heap base n → top ≡ base + n → HasNoBase s base top
HasNoBase-free s base n top safe free end =
    let high = base + n in
    subst (λ (t : ℕ). HasNoBase s base t) (sym end) (
      All-weaker (IsGuarded s.heap) (λ c. HasBaseIn base high c → ⊥) (λ c. no_guarded s.heap base n c free) s.registers safe.registers,
      All-weaker (HoldsGuarded s.heap) (λ granule. HasBaseIn base high (cell_of granule) → ⊥) (λ granule. no_guarded s.heap base n (cell_of granule) free) s.granules safe.granules,
    )

HasNoBase-placed : (s : State) (rd size base top : ℕ) (new : State) → IsSafe s → Places s rd size base top new → HasNoBase s base top
HasNoBase-placed s rd size base top new safe out = HasNoBase-free s base (top - base) top safe out.may.free (omega (arith, out.may.order))

-- ---- steps

-- A reply that is one of those.
nothing : (r answer : Reply) → HandsOutNothing answer → r ≡ answer → HandsOutNothing r
nothing r answer is same = subst HandsOutNothing (sym same) is

either_way : (t : Bool) → HandsOutNothing (cond t Cleared Done)
either_way true = tt
either_way false = tt

Malloc-unused : (old : State) (rd size : ℕ) (r : Reply) (new : State) → IsSafe old → IsSafe (after_sweep old) → MallocAllows old rd size r new → IsUnusedBlock old r
Malloc-unused old rd size (Block base top) new safe after effect = HasNoBase-placed old rd size base top new safe effect
Malloc-unused old rd size (BlockAfter base top cleared) new safe after effect = HasNoBase-placed (after_sweep old) rd size base top new after effect.1
Malloc-unused old rd size NoSpace new safe after effect = tt
Malloc-unused old rd size (NoSpaceAfter cleared) new safe after effect = tt
Malloc-unused old rd size (Held bytes) new safe after effect = effect
Malloc-unused old rd size Done new safe after effect = effect
Malloc-unused old rd size Cleared new safe after effect = effect
Malloc-unused old rd size (Swept cleared released) new safe after effect = effect
Malloc-unused old rd size (Begun cleared) new safe after effect = effect
Malloc-unused old rd size (Shown shown) new safe after effect = effect
Malloc-unused old rd size (Trap trap) new safe after effect = absurd effect

-- Where the command's checks pass, and where one fails.
After-nothing : (t : Option TheTrap) (old : State) (c : Command) (r : Reply) (new : State)
    → (Allows old c r new → HandsOutNothing r) → FollowsAfter t old c r new → HandsOutNothing r
After-nothing None old c r new effect step = effect step
After-nothing (Some t) old c r new effect step = nothing r (Trap t) tt step.0

pub Follows-unused : (old : State) (c : Command) (r : Reply) (new : State) → IsSafe old → IsSafe (after_sweep old) → Follows old c r new → IsUnused old c r
Follows-unused old (Malloc rd size) r new safe after step = Malloc-unused old rd size r new safe after step
Follows-unused old (Free rs) r new safe after step = After-nothing (first_failed (checks old (Free rs))) old (Free rs) r new (λ e. nothing r _ tt e.0) step
Follows-unused old (Copy rd rs) r new safe after step = nothing r Done tt step.0
Follows-unused old (SetAddr rd rs a) r new safe after step = nothing r _ (either_way _) step.0
Follows-unused old (Narrow rd rs n) r new safe after step = After-nothing (first_failed (checks old (Narrow rd rs n))) old (Narrow rd rs n) r new (λ e. nothing r Done tt e.0) step
Follows-unused old (AndPerm rd rs mask) r new safe after step = nothing r Done tt step.0
Follows-unused old (StoreCap ra rs) r new safe after step = After-nothing (first_failed (checks old (StoreCap ra rs))) old (StoreCap ra rs) r new (λ e. nothing r Done tt e.0) step
Follows-unused old (LoadCap rd ra) r new safe after step = After-nothing (first_failed (checks old (LoadCap rd ra))) old (LoadCap rd ra) r new (λ e. nothing r Done tt e.0) step
Follows-unused old (Write ra bytes) r new safe after step = After-nothing (first_failed (checks old (Write ra bytes))) old (Write ra bytes) r new (λ e. nothing r Done tt e.0) step
Follows-unused old (Show rs) r new safe after step = nothing r _ tt step.0
Follows-unused old Sweep r new safe after step = After-nothing (first_failed (checks old Sweep)) old Sweep r new (λ e. nothing r _ tt e.0) step
Follows-unused old Begin r new safe after step = After-nothing (first_failed (checks old Begin)) old Begin r new (λ e. nothing r _ tt e.0) step
Follows-unused old End r new safe after step = After-nothing (first_failed (checks old End)) old End r new (λ e. nothing r _ tt e.0) step
