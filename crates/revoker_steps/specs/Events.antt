-- Lists that mix what a revoker does and what the program does, each with what it was answered.
use Rattle.std.specs.Prelude.{◌≡◌, ◌<◌, ◌+◌, ◌*◌, ◌||◌, ℕ, Bool, false, List, [], ◌∷◌, length}
use Rattle.tag_memory.specs.Extent.{page_granules}
use Rattle.trace_text.specs.declared.trace.Command.{Command}
use Rattle.heap_reply.specs.declared.reply.Reply.{Reply}
use Rattle.machine_steps.specs.Safety.{FitsTypes}
use Rattle.machine_steps.specs.State.{State}
use Rattle.revoker_steps.specs.declared.command.RevokerCommand.{RevokerCommand}
use Rattle.revoker_steps.specs.declared.command.RevokerCommand.TheVariants.{UntagGranule, UntagRegister, Visit}
use Rattle.revoker_steps.specs.declared.command.RevokerReply.{RevokerReply}
use Rattle.revoker_steps.specs.declared.command.RevokerReply.TheVariants.{Cleared, Done, Released, Trap}
use Rattle.revoker_steps.specs.Revoker.{RevokerStep, is_at, is_in_page, is_register}

-- An event: a command of the program, or of a revoker, with its reply.
pub data Event : Type 0 where
  Answered : Command → Reply → Event
  Revoked : RevokerCommand → RevokerReply → Event

-- From old the event may happen, where the program's commands are answered by this relation, and leaves new.
abbrev pub Happens : (State → Command → Reply → State → Type 0) → State → Event → State → Type 0
Happens By old (Answered command reply) new = FitsTypes command × By old command reply new
Happens By old (Revoked command reply) new = RevokerStep old command reply new

-- From old the events may happen, one after the other, and leave new.
abbrev pub Runs : (State → Command → Reply → State → Type 0) → State → List Event → State → Type 0
Runs By old [] new = new ≡ old
Runs By old (event ∷ events) new = (mid : State) × Happens By old event mid × Runs By mid events new

-- ---- passes of a revoker

-- How many tags a reply says were taken.
abbrev pub cleared_by : RevokerReply → ℕ
cleared_by Done = 0
cleared_by (Cleared cleared) = cleared
cleared_by (Released bytes) = 0
cleared_by (Trap trap) = 0

-- How many tags these replies say were taken together.
abbrev pub cleared_in : List (ℕ × RevokerReply) → ℕ
cleared_in [] = 0
cleared_in (it ∷ rest) = cleared_by it.1 + cleared_in rest

-- The revoker visits these pages, one after the other, and is answered so.
abbrev pub visits : List (ℕ × RevokerReply) → List Event
visits [] = []
visits (it ∷ rest) = Revoked (Visit it.0) it.1 ∷ visits rest

-- The granule is on one of these pages.
abbrev pub is_in_one : List (ℕ × RevokerReply) → ℕ → Bool
is_in_one [] i = false
is_in_one (it ∷ rest) i = is_in_one rest i || is_in_page it.0 i

-- One of these was about this page, or register.
pub data IsAmong : List (ℕ × RevokerReply) → ℕ → Type 0 where
  first : (it : ℕ × RevokerReply) (rest : List (ℕ × RevokerReply)) (n : ℕ) → it.0 ≡ n → IsAmong (it ∷ rest) n
  later : (it : ℕ × RevokerReply) (rest : List (ℕ × RevokerReply)) (n : ℕ) → IsAmong rest n → IsAmong (it ∷ rest) n

-- Each page of the state's memory is one of these.
abbrev pub CoverMemory : State → List (ℕ × RevokerReply) → Type 0
CoverMemory s pages = (page : ℕ) → page_granules * page < length s.granules → IsAmong pages page

-- It takes the tags of the granules at these addresses, and is answered so.
abbrev pub untags : List (ℕ × RevokerReply) → List Event
untags [] = []
untags (it ∷ rest) = Revoked (UntagGranule it.0) it.1 ∷ untags rest

-- The granule is at one of these addresses.
abbrev pub is_at_one : State → List (ℕ × RevokerReply) → ℕ → Bool
is_at_one s [] i = false
is_at_one s (it ∷ rest) i = is_at_one s rest i || is_at s it.0 i

-- It takes the tags of these registers, and is answered so.
abbrev pub register_untags : List (ℕ × RevokerReply) → List Event
register_untags [] = []
register_untags (it ∷ rest) = Revoked (UntagRegister it.0) it.1 ∷ register_untags rest

-- The register is one of these.
abbrev pub is_one : List (ℕ × RevokerReply) → ℕ → Bool
is_one [] k = false
is_one (it ∷ rest) k = is_one rest k || is_register it.0 k

-- Each register is one of these.
abbrev pub CoverRegisters : State → List (ℕ × RevokerReply) → Type 0
CoverRegisters s registers = (r : ℕ) → r < length s.registers → IsAmong registers r
