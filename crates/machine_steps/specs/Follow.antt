-- What an allocator may answer that places blocks as it likes: where, and how long above the size asked for, is free.
-- Every other command is answered as in a step.
use Rattle.std.specs.Prelude.{◌≡◌, ◌≤◌, ◌+◌, ◌-◌, ℕ, true, max, Option, Some, None}
use Rattle.cap_codec.specs.Words.{capability_of}
use Rattle.heap_model.specs.Claim.{IsClaimable}
use Rattle.heap_model.specs.Place.{with_block}
use Rattle.tag_memory.specs.Cells.{null_cell}
use Rattle.trace_text.specs.declared.trace.Command.{Command}
use Rattle.trace_text.specs.declared.trace.Command.TheVariants.{Malloc, Free, Copy, SetAddr, Narrow, AndPerm, StoreCap, LoadCap, Write, Show, Sweep, Begin, End}
use Rattle.heap_reply.specs.declared.reply.Reply.{Reply}
use Rattle.heap_reply.specs.declared.reply.Reply.TheVariants.{Block, BlockAfter, NoSpace, NoSpaceAfter, Held, Done, Cleared, Swept, Begun}
use Rattle.heap_reply.specs.declared.reply.Reply.TheVariants as reply
use Rattle.heap_reply.specs.declared.reply.Trap.{Trap}
use Rattle.machine_steps.specs.State.{State, with_register}
use Rattle.machine_steps.specs.Step.{Effect, MaySweep, checks, first_failed, after_sweep, sweep_takes}

-- The state once a block is live from base to top, and the register has its capability.
abbrev pub with_new : State → ℕ → ℕ → ℕ → State
with_new s rd base top =
    record (with_register s rd (capability_of base top, true)) { heap = with_block s.heap base (top - base) }

-- The bytes from base to top become a live block, which may lie there, and has at least this size: 0 counts as 1.
pub record Places (old : State) (rd size base top : ℕ) (new : State) : Type 0 where
  pub may : IsClaimable old.heap base top
  pub enough : base + max 1 size ≤ top
  pub state : new ≡ with_new old rd base top

-- No block is handed out, and the register is null.
pub record PlacesNone (old : State) (rd : ℕ) (new : State) : Type 0 where
  pub state : new ≡ with_register old rd null_cell

-- A sweep came first: it may, and took so many tags.
pub record Sweeps (old : State) (cleared : ℕ) : Type 0 where
  pub may : MaySweep old
  pub cleared_is : cleared ≡ sweep_takes old

-- What a malloc of this size may be answered.
abbrev pub MallocAllows : State → ℕ → ℕ → Reply → State → Type 0
MallocAllows old rd size (Block base top) new = Places old rd size base top new
MallocAllows old rd size (BlockAfter base top cleared) new = Sweeps old cleared × Places (after_sweep old) rd size base top new
MallocAllows old rd size NoSpace new = PlacesNone old rd new
MallocAllows old rd size (NoSpaceAfter cleared) new = Sweeps old cleared × PlacesNone (after_sweep old) rd new
MallocAllows old rd size (Held bytes) new = ⊥
MallocAllows old rd size Done new = ⊥
MallocAllows old rd size Cleared new = ⊥
MallocAllows old rd size (Swept cleared released) new = ⊥
MallocAllows old rd size (Begun cleared) new = ⊥
MallocAllows old rd size (reply.Shown shown) new = ⊥
MallocAllows old rd size (reply.Trap trap) new = ⊥

-- What a command may be answered, and leaves, where no check fails.
abbrev pub Allows : State → Command → Reply → State → Type 0
Allows old (Malloc rd size) answer new = MallocAllows old rd size answer new
Allows old (Free rs) answer new = Effect old (Free rs) answer new
Allows old (Copy rd rs) answer new = Effect old (Copy rd rs) answer new
Allows old (SetAddr rd rs address) answer new = Effect old (SetAddr rd rs address) answer new
Allows old (Narrow rd rs length) answer new = Effect old (Narrow rd rs length) answer new
Allows old (AndPerm rd rs mask) answer new = Effect old (AndPerm rd rs mask) answer new
Allows old (StoreCap ra rs) answer new = Effect old (StoreCap ra rs) answer new
Allows old (LoadCap rd ra) answer new = Effect old (LoadCap rd ra) answer new
Allows old (Write ra bytes) answer new = Effect old (Write ra bytes) answer new
Allows old (Show rs) answer new = Effect old (Show rs) answer new
Allows old Sweep answer new = Effect old Sweep answer new
Allows old Begin answer new = Effect old Begin answer new
Allows old End answer new = Effect old End answer new

-- Where a check fails, and where none does.
abbrev pub FollowsAfter : Option Trap → State → Command → Reply → State → Type 0
FollowsAfter None old command answer new = Allows old command answer new
FollowsAfter (Some trap) old command answer new = (answer ≡ reply.Trap trap) × (new ≡ old)

-- From the state old, the command may be answered so, and then leaves the state new.
abbrev pub Follows : State → Command → Reply → State → Type 0
Follows old command answer new = FollowsAfter (first_failed (checks old command)) old command answer new
