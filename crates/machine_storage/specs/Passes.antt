-- What a pass over memory finds, whoever makes it: threads, or the calling thread alone; and when one is made.
use Rattle.std.specs.Prelude.{◌≡◌, ℕ, false, true, Option, IfSome}
use denote.Ref.{Bor}
use Rattle.heap_model.specs.Heap.{due}
use Rattle.heap_reply.specs.declared.reply.Reply.{Reply}
use Rattle.heap_reply.specs.declared.reply.Reply.TheVariants.{BlockAfter, NoSpaceAfter}
use Rattle.sweep_masks.specs.Masks.{TakeTags}
use Rattle.tag_memory.specs.Cells.{is_dirty_at}
use Rattle.trace_text.specs.declared.trace.Command.{Command}
use Rattle.trace_text.specs.declared.trace.Command.TheVariants.{Malloc, Sweep, Begin, End}
use Rattle.machine_steps.specs.Step.{HasNoPlace, MaySweep}
use Rattle.machine_storage.specs.Followed.{IsLongEnough}
use Rattle.machine_storage.specs.Storage.{IsStorage, state_of}
use Rattle.machine_storage.specs.declared.storage.Storage.{Storage}
use Rattle.machine_storage.specs.declared.storage.passes.Found.{Found}

-- A 1 for each granule whose tag the pass takes.
pub record IsFound (m : Storage) (found : Found) : Type 0 where
  pub masks : TakeTags m.memory (due m.heap) found.masks.items

-- Whatever is answered of a sound storage, by what has this for its answers, is what a pass finds there; or nothing.
abbrev pub FindsTags : (Bor Storage → Option Found → Type 0) → Type 0
FindsTags answers = (m : Bor Storage) (found : Option Found) → IsStorage m.now → answers m found → IfSome found (IsFound m.now)

-- A pass may be made over this storage, by what has this for the condition of a call.
abbrev pub MayPass : (Bor Storage → Type 0) → Storage → Type 0
MayPass condition m = (at : Bor Storage) → at.now ≡ m → condition at

-- A pass is made for this command: by a malloc that has no place and may sweep; by a sweep, and by what begins an epoch,
-- where no epoch is open and some block waits; by what ends one, where one is open and not every page is clean.
abbrev pub MakesPass : Storage → Command → Type 0
MakesPass m (Malloc rd size) = HasNoPlace (state_of m) size × MaySweep (state_of m)
MakesPass m Sweep = MaySweep (state_of m)
MakesPass m Begin = MaySweep (state_of m)
MakesPass m End = (m.heap.is_open ≡ true) × ¬ ((page : ℕ) → is_dirty_at m.memory.dirty page ≡ false)
MakesPass m command = ⊥

-- One is made to judge what a malloc of this size was answered: a sweep is told of, one may be, and the block, if there is
-- one, is long enough.
abbrev pub IsJudgedByPass : Storage → ℕ → Reply → Type 0
IsJudgedByPass m size (BlockAfter base top cleared) = MaySweep (state_of m) × IsLongEnough size base top
IsJudgedByPass m size (NoSpaceAfter cleared) = MaySweep (state_of m)
IsJudgedByPass m size answer = ⊥

-- One is made to follow the answer to a command.
abbrev pub FollowsByPass : Storage → Command → Reply → Type 0
FollowsByPass m (Malloc rd size) answer = IsJudgedByPass m size answer
FollowsByPass m command answer = MakesPass m command
