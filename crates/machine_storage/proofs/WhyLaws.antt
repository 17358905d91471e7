-- Commands that have one answer, and why another is refused.
use Rattle.std.proofs.Common.{◌≡◌, ◌≤◌, ◌+◌, ℕ, Option, Some, None, refl, arith}
use Rattle.heap_model.specs.Heap.{HeapState, IsSound as IsSoundHeap}
use Rattle.heap_model.specs.Quarantine.{without_waiting}
use Rattle.trace_text.specs.declared.trace.Command.{Command}
use Rattle.trace_text.specs.declared.trace.Command.TheVariants.{Malloc, Free, Copy, SetAddr, Narrow, AndPerm, StoreCap, LoadCap, Write, Show, Sweep, Begin, End}
use Rattle.heap_reply.specs.declared.reply.Reply.{Reply}
use Rattle.heap_reply.specs.declared.reply.Trap.{Trap as TheTrap}
use Rattle.machine_steps.specs.Follow.{Allows, Follows, FollowsAfter}
use Rattle.machine_storage.specs.Followed.{CanReply, HasOneReply, IsRefused, IsWhy}
use Rattle.machine_storage.specs.declared.followed.Why.TheVariants.{MustBe}
use Rattle.heap_model.specs.Claim.{IsClaimable}
use Rattle.std.specs.Prelude.{◌≢◌, ◌*◌, ◌%◌, ◌^◌, ◌==◌, nat_le}
use Rattle.std.proofs.lemmas.Bool.{and_parts, leb-true}
use Rattle.machine_steps.specs.State.{State}
use Rattle.machine_steps.specs.Step.{Effect, Step, StepAfter, checks, first_failed}

-- ---- commands that have one answer

Allows-effect : (old : State) (c : Command) (r : Reply) (new : State) → HasOneReply c → Allows old c r new → Effect old c r new
Allows-effect old (Malloc rd size) r new one allowed = absurd one
Allows-effect old (Free rs) r new one allowed = allowed
Allows-effect old (Copy rd rs) r new one allowed = allowed
Allows-effect old (SetAddr rd rs a) r new one allowed = allowed
Allows-effect old (Narrow rd rs n) r new one allowed = allowed
Allows-effect old (AndPerm rd rs mask) r new one allowed = allowed
Allows-effect old (StoreCap ra rs) r new one allowed = allowed
Allows-effect old (LoadCap rd ra) r new one allowed = allowed
Allows-effect old (Write ra bytes) r new one allowed = allowed
Allows-effect old (Show rs) r new one allowed = allowed
Allows-effect old Sweep r new one allowed = allowed
Allows-effect old Begin r new one allowed = allowed
Allows-effect old End r new one allowed = allowed

FollowsAfter-step : (t : Option TheTrap) (old : State) (c : Command) (r : Reply) (new : State) → HasOneReply c → FollowsAfter t old c r new → StepAfter t old c r new
FollowsAfter-step None old c r new one follows = Allows-effect old c r new one follows
FollowsAfter-step (Some t) old c r new one follows = follows

pub Follows-step : (old : State) (c : Command) (r : Reply) (new : State) → HasOneReply c → Follows old c r new → Step old c r new
Follows-step old c r new one follows = FollowsAfter-step (first_failed (checks old c)) old c r new one follows

-- ---- what isn't allowed

-- Why another answer than the one that a command has isn't allowed.
pub IsWhy-other : (old : State) (c : Command) (answer reply : Reply) → HasOneReply c → CanReply old c reply → answer ≢ reply → IsWhy old c answer (MustBe reply)
IsWhy-other old (Malloc rd size) answer reply one can other = absurd one
IsWhy-other old (Free rs) answer reply one can other = (can, other)
IsWhy-other old (Copy rd rs) answer reply one can other = (can, other)
IsWhy-other old (SetAddr rd rs a) answer reply one can other = (can, other)
IsWhy-other old (Narrow rd rs n) answer reply one can other = (can, other)
IsWhy-other old (AndPerm rd rs mask) answer reply one can other = (can, other)
IsWhy-other old (StoreCap ra rs) answer reply one can other = (can, other)
IsWhy-other old (LoadCap rd ra) answer reply one can other = (can, other)
IsWhy-other old (Write ra bytes) answer reply one can other = (can, other)
IsWhy-other old (Show rs) answer reply one can other = (can, other)
IsWhy-other old Sweep answer reply one can other = (can, other)
IsWhy-other old Begin answer reply one can other = (can, other)
IsWhy-other old End answer reply one can other = (can, other)

pub IsRefused-other : (old : State) (c : Command) (answer reply : Reply)
    → ((r other : Reply) (new left : State) → Step old c r new → Step old c other left → (r ≡ other) × (new ≡ left))
    → HasOneReply c → CanReply old c reply → answer ≢ reply → IsRefused old c answer
IsRefused-other old c answer reply only one can other = λ left follows.
    other (only answer reply left can.0 (Follows-step old c answer left one follows) can.1).0

-- A block that may lie in a heap ends at 2 ^ 64 at the latest.
pub top_fits : (s : HeapState) (base top : ℕ) → IsSoundHeap s → IsClaimable (without_waiting s) base top → top ≤ 2 ^ 64
top_fits s base top sound may =
    let limit : s.base + 4096 * sound.pages ≤ 2 ^ 64 =
    leb-true (s.base + 4096 * sound.pages) (2 ^ 64) (and_parts (s.base % 4096 == 0) (nat_le (s.base + 4096 * sound.pages) (2 ^ 64)) sound.place).1 in
    omega (arith, limit, sound.bytes, may.order, may.free.end)
