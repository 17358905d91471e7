-- What becomes of an answer to a command.
use Rattle.std.specs.Prelude.{◌≡◌, ◌≢◌, ◌≤◌, ◌+◌, ℕ, max}
use Rattle.heap_model.specs.Claim.{IsReason}
use Rattle.heap_model.specs.Quarantine.{without_waiting}
use Rattle.trace_text.specs.declared.trace.Command.{Command}
use Rattle.trace_text.specs.declared.trace.Command.TheVariants.{Malloc, Free, Copy, SetAddr, Narrow, AndPerm, StoreCap, LoadCap, Write, Show, Sweep, Begin, End}
use Rattle.heap_reply.specs.declared.reply.Reply.{Reply}
use Rattle.heap_reply.specs.declared.reply.Reply.TheVariants.{Block, BlockAfter, NoSpace, NoSpaceAfter, Held, Done, Cleared, Swept, Begun, Shown, Trap}
use Rattle.machine_storage.specs.declared.followed.Followed.{Followed}
use Rattle.machine_storage.specs.declared.followed.Followed.TheVariants.{Agrees, Differs}
use Rattle.machine_storage.specs.declared.followed.Why.{Why}
use Rattle.machine_storage.specs.declared.followed.Why.TheVariants.{MayNotSweep, MustBe, NotOfMalloc, Refused, Takes, TooShort}
use Rattle.machine_steps.specs.Follow.{Follows}
use Rattle.machine_steps.specs.State.{State}
use Rattle.machine_steps.specs.Step.{MaySweep, Step, NeedsNoMemory, sweep_takes}

-- No state follows from this answer.
abbrev pub IsRefused : State → Command → Reply → Type 0
IsRefused old command answer = (left : State) → Follows old command answer left → ⊥

-- Such commands have one answer: all but a malloc.
abbrev pub HasOneReply : Command → Type 0
HasOneReply (Malloc rd size) = ⊥
HasOneReply (Free rs) = Unit {0}
HasOneReply (Copy rd rs) = Unit {0}
HasOneReply (SetAddr rd rs address) = Unit {0}
HasOneReply (Narrow rd rs length) = Unit {0}
HasOneReply (AndPerm rd rs mask) = Unit {0}
HasOneReply (StoreCap ra rs) = Unit {0}
HasOneReply (LoadCap rd ra) = Unit {0}
HasOneReply (Write ra bytes) = Unit {0}
HasOneReply (Show rs) = Unit {0}
HasOneReply Sweep = Unit {0}
HasOneReply Begin = Unit {0}
HasOneReply End = Unit {0}

-- A command is answered so, whatever state that leaves.
abbrev pub CanReply : State → Command → Reply → Type 0
CanReply old command reply = (new : State) × Step old command reply new

-- From base to top there are as many bytes as a malloc of this size asks for, or more: 0 counts as 1.
abbrev pub IsLongEnough : ℕ → ℕ → ℕ → Type 0
IsLongEnough size base top = base + max 1 size ≤ top

-- Why a malloc of this size may not be answered so, the first of these that is true: a sweep is told of, and none may be;
-- the block is too short; the sweep takes another number of tags; the block may not lie there.
abbrev pub IsWhyOfMalloc : State → ℕ → Reply → Why → Type 0
IsWhyOfMalloc old size (Block base top) TooShort = ¬ IsLongEnough size base top
IsWhyOfMalloc old size (Block base top) (Refused reason) = IsLongEnough size base top × IsReason old.heap base top reason
IsWhyOfMalloc old size (BlockAfter base top cleared) MayNotSweep = ¬ MaySweep old
IsWhyOfMalloc old size (BlockAfter base top cleared) TooShort = MaySweep old × ¬ IsLongEnough size base top
IsWhyOfMalloc old size (BlockAfter base top cleared) (Takes count) =
    MaySweep old × IsLongEnough size base top × (count ≡ sweep_takes old) × (cleared ≢ count)
IsWhyOfMalloc old size (BlockAfter base top cleared) (Refused reason) =
    MaySweep old × IsLongEnough size base top × (cleared ≡ sweep_takes old) × IsReason (without_waiting old.heap) base top reason
IsWhyOfMalloc old size (NoSpaceAfter cleared) MayNotSweep = ¬ MaySweep old
IsWhyOfMalloc old size (NoSpaceAfter cleared) (Takes count) = MaySweep old × (count ≡ sweep_takes old) × (cleared ≢ count)
IsWhyOfMalloc old size (Held bytes) NotOfMalloc = Unit {0}
IsWhyOfMalloc old size Done NotOfMalloc = Unit {0}
IsWhyOfMalloc old size Cleared NotOfMalloc = Unit {0}
IsWhyOfMalloc old size (Swept cleared released) NotOfMalloc = Unit {0}
IsWhyOfMalloc old size (Begun cleared) NotOfMalloc = Unit {0}
IsWhyOfMalloc old size (Shown shown) NotOfMalloc = Unit {0}
IsWhyOfMalloc old size (Trap trap) NotOfMalloc = Unit {0}
IsWhyOfMalloc old size answer why = ⊥

-- Why a command may not be answered so.
abbrev pub IsWhy : State → Command → Reply → Why → Type 0
IsWhy old (Malloc rd size) answer why = IsWhyOfMalloc old size answer why
IsWhy old command answer (MustBe reply) = CanReply old command reply × (answer ≢ reply)
IsWhy old command answer why = ⊥

-- A command that was answered so comes to this, and leaves the state new.
abbrev pub IsFollowed : State → Command → Reply → Followed → State → Type 0
IsFollowed old command answer Agrees new = Follows old command answer new
IsFollowed old command answer (Differs why) new = IsRefused old command answer × IsWhy old command answer why × (new ≡ old)

-- To judge what a malloc was answered needs no memory: no sweep is told of, or none may be.
abbrev pub IsJudgedFreely : State → Reply → Type 0
IsJudgedFreely s (BlockAfter base top cleared) = MaySweep s → ⊥
IsJudgedFreely s (NoSpaceAfter cleared) = MaySweep s → ⊥
IsJudgedFreely s (Block base top) = Unit {0}
IsJudgedFreely s NoSpace = Unit {0}
IsJudgedFreely s (Held bytes) = Unit {0}
IsJudgedFreely s Done = Unit {0}
IsJudgedFreely s Cleared = Unit {0}
IsJudgedFreely s (Swept cleared released) = Unit {0}
IsJudgedFreely s (Begun cleared) = Unit {0}
IsJudgedFreely s (Shown shown) = Unit {0}
IsJudgedFreely s (Trap trap) = Unit {0}

-- To follow the answer to a command needs no memory.
abbrev pub FollowsFreely : State → Command → Reply → Type 0
FollowsFreely s (Malloc rd size) answer = IsJudgedFreely s answer
FollowsFreely s (Free rs) answer = NeedsNoMemory s (Free rs)
FollowsFreely s (Copy rd rs) answer = NeedsNoMemory s (Copy rd rs)
FollowsFreely s (SetAddr rd rs address) answer = NeedsNoMemory s (SetAddr rd rs address)
FollowsFreely s (Narrow rd rs length) answer = NeedsNoMemory s (Narrow rd rs length)
FollowsFreely s (AndPerm rd rs mask) answer = NeedsNoMemory s (AndPerm rd rs mask)
FollowsFreely s (StoreCap ra rs) answer = NeedsNoMemory s (StoreCap ra rs)
FollowsFreely s (LoadCap rd ra) answer = NeedsNoMemory s (LoadCap rd ra)
FollowsFreely s (Write ra bytes) answer = NeedsNoMemory s (Write ra bytes)
FollowsFreely s (Show rs) answer = NeedsNoMemory s (Show rs)
FollowsFreely s Sweep answer = NeedsNoMemory s Sweep
FollowsFreely s Begin answer = NeedsNoMemory s Begin
FollowsFreely s End answer = NeedsNoMemory s End
