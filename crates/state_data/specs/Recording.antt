-- What is told of a command, by what was seen before it, its reply, and the machine after it.
use Rattle.std.specs.Prelude.{ℕ, ◌&&◌, ◌==◌, nat_lt, ◌-◌, ◌*◌, ◌<◌, ◌≤◌, ◌≡◌, Bool, false, true, not, List, [], ◌∷◌, ◌++◌, Option, Some, None, codes, filter, if◌then◌else◌, length, slice_index_or}
use Rattle.std.specs.List.Sorted.{IsNonDecreasingBy, IsPermutation}
use Rattle.json.specs.Token.{Token}
use Rattle.data_tokens.specs.Taken.{is_register_taken, is_tag_gone, taken_tokens, none_taken}
use Rattle.cap_codec.specs.Words.{base_of}
use Rattle.heap_model.specs.Blocks.{Span, has_bounds, start_of}
use Rattle.machine_steps.specs.State.{State, register}
use Rattle.machine_steps.specs.Safety.{IsSafe}
use Rattle.machine_steps.specs.Step.{Step, index_in}
use Rattle.heap_reply.specs.declared.reply.Reply.{Reply}
use Rattle.heap_reply.specs.declared.reply.Reply.TheVariants.{Block, BlockAfter, NoSpace, NoSpaceAfter, Held, Done, Cleared, Swept, Begun, Shown, Trap}
use Rattle.tag_memory.specs.Cells.{Cell, Granule, cell_of}
use Rattle.tag_memory.specs.Tags.{is_set_for, is_tagged}
use Rattle.trace_text.specs.declared.trace.Command.{Command}
use Rattle.trace_text.specs.declared.trace.Command.TheVariants.{Malloc, Free, Copy, SetAddr, Narrow, AndPerm, StoreCap, LoadCap, Write, Show, Sweep, Begin, End}
use Rattle.data_tokens.specs.Blocks.{named_blocks_tokens}
use Rattle.data_tokens.specs.Changes.{below, change_tokens, registers_tokens, tag_change}
use Rattle.data_tokens.specs.Spans.{spans_of}
use Rattle.state_data.specs.States.{Tells, data_line_text, line_tokens, parts_tokens, tells_pass, tells_registers}
use Rattle.state_data.specs.declared.snapshot.Before.{Before}
use Rattle.state_data.specs.declared.snapshot.Snapshot.{Snapshot}

-- What was seen is the state's: registers, tags, and the blocks that wait, in any order, or are painted.
pub record IsSnapshot (snapshot : Snapshot) (s : State) : Type 0 where
  pub registers : snapshot.registers ≡ s.registers
  pub count : 64 * length snapshot.tags.items ≡ length s.granules
  pub bits : (i : ℕ) → i < length s.granules → is_set_for snapshot.tags.items i ≡ is_tagged s.granules i
  pub waiting : IsPermutation (spans_of snapshot.waiting.items) s.heap.waiting
  pub painted : spans_of snapshot.painted.items ≡ s.heap.painted
  pub is_open : snapshot.is_open ≡ s.heap.is_open

-- The granule into which a command may write.
abbrev pub written_granule : State → Command → Option ℕ
written_granule s (Malloc rd size) = None
written_granule s (Free rs) = None
written_granule s (Copy rd rs) = None
written_granule s (SetAddr rd rs address) = None
written_granule s (Narrow rd rs length) = None
written_granule s (AndPerm rd rs mask) = None
written_granule s (StoreCap ra rs) = Some (index_in s (register s ra).0)
written_granule s (LoadCap rd ra) = None
written_granule s (Write ra bytes) = Some (index_in s (register s ra).0)
written_granule s (Show rs) = None
written_granule s Sweep = None
written_granule s Begin = None
written_granule s End = None

-- Where a block starts that a command may give up: the base of a register's bounds.
abbrev pub freed_base : State → Command → ℕ
freed_base s (Malloc rd size) = 0
freed_base s (Free rs) = base_of (register s rs).0
freed_base s (Copy rd rs) = 0
freed_base s (SetAddr rd rs address) = 0
freed_base s (Narrow rd rs length) = 0
freed_base s (AndPerm rd rs mask) = 0
freed_base s (StoreCap ra rs) = 0
freed_base s (LoadCap rd ra) = 0
freed_base s (Write ra bytes) = 0
freed_base s (Show rs) = 0
freed_base s Sweep = 0
freed_base s Begin = 0
freed_base s End = 0

-- The register that a command may change where no pass looks at registers; 0 where it changes none, which none does.
abbrev pub changed_register : Command → ℕ
changed_register (Malloc rd size) = rd
changed_register (Free rs) = 0
changed_register (Copy rd rs) = rd
changed_register (SetAddr rd rs address) = rd
changed_register (Narrow rd rs length) = rd
changed_register (AndPerm rd rs mask) = rd
changed_register (StoreCap ra rs) = 0
changed_register (LoadCap rd ra) = rd
changed_register (Write ra bytes) = 0
changed_register (Show rs) = 0
changed_register Sweep = 0
changed_register Begin = 0
changed_register End = 0

-- What is read before a command: the granule into which it may write, if it is one of the heap's, where a block starts that
-- it may give up, and the register that it may change.
abbrev pub granule_before : State → Option ℕ → Option (ℕ × Granule)
granule_before s None = None
granule_before s (Some i) = if nat_lt i (length s.granules) then Some (i, slice_index_or s.granules i (0, false)) else None

abbrev pub before_of : State → Command → Before
before_of s c = record { granule = granule_before s (written_granule s c); base = freed_base s c; register = changed_register c }

-- The reply tells of a pass that took a tag.
abbrev pub takes_tags : Reply → Bool
takes_tags (Block base top) = false
takes_tags (BlockAfter base top cleared) = not (cleared == 0)
takes_tags NoSpace = false
takes_tags (NoSpaceAfter cleared) = not (cleared == 0)
takes_tags (Held bytes) = false
takes_tags Done = false
takes_tags Cleared = false
takes_tags (Swept cleared released) = not (cleared == 0)
takes_tags (Begun cleared) = not (cleared == 0)
takes_tags (Shown shown) = false
takes_tags (Trap trap) = false

-- The granules that changed: the one that was written, of which the bytes and the tag before are told, or those whose tags
-- a pass took.
abbrev pub changed_granules_tokens : Option (ℕ × Granule) → Reply → List ℕ → List Granule → List Token
changed_granules_tokens (Some (i, before)) r tags granules = change_tokens (codes "i") i (cell_of before) (cell_of (slice_index_or granules i (0, false)))
changed_granules_tokens None r tags granules = if takes_tags r then below (tag_change tags granules) (length granules) else []

-- The blocks that changed, where these were due, and the one that was given up starts here.
abbrev pub changed_blocks_tokens : Reply → List Span → ℕ → List Token
changed_blocks_tokens (Block base top) due start = named_blocks_tokens (codes "live") ((base, top - base) ∷ [])
changed_blocks_tokens (BlockAfter base top cleared) due start =
    named_blocks_tokens (codes "free") (filter (λ block. not (has_bounds base top block)) due) ++ named_blocks_tokens (codes "live") ((base, top - base) ∷ [])
changed_blocks_tokens NoSpace due start = []
changed_blocks_tokens (NoSpaceAfter cleared) due start = named_blocks_tokens (codes "free") due
changed_blocks_tokens (Held bytes) due start = named_blocks_tokens (codes "waiting") ((start, bytes) ∷ [])
changed_blocks_tokens Done due start = []
changed_blocks_tokens Cleared due start = []
changed_blocks_tokens (Swept cleared released) due start = named_blocks_tokens (codes "free") due
changed_blocks_tokens (Begun cleared) due start = named_blocks_tokens (codes "painted") due
changed_blocks_tokens (Shown shown) due start = []
changed_blocks_tokens (Trap trap) due start = []

-- A block that is handed out starts before it ends.
abbrev pub HasOrder : Reply → Type 0
HasOrder (Block base top) = base ≤ top
HasOrder (BlockAfter base top cleared) = base ≤ top
HasOrder NoSpace = Unit {0}
HasOrder (NoSpaceAfter cleared) = Unit {0}
HasOrder (Held bytes) = Unit {0}
HasOrder Done = Unit {0}
HasOrder Cleared = Unit {0}
HasOrder (Swept cleared released) = Unit {0}
HasOrder (Begun cleared) = Unit {0}
HasOrder (Shown shown) = Unit {0}
HasOrder (Trap trap) = Unit {0}

-- The blocks that are due, as they were seen.
abbrev pub due_in_snapshot : Snapshot → List Span
due_in_snapshot snapshot = if snapshot.is_open then spans_of snapshot.painted.items else spans_of snapshot.waiting.items

-- The tags that a pass took.
abbrev pub taken_tags_tokens : Reply → Snapshot → List Granule → List Token
taken_tags_tokens r snapshot granules =
    if tells_pass r
    then
    if takes_tags r
    then taken_tokens (λ k. tells_registers r && is_register_taken (due_in_snapshot snapshot) snapshot.registers k) (is_tag_gone snapshot.tags.items granules) (length granules)
    else none_taken
    else []

-- All of it, of the command at line n, with the registers and the granules after it.
abbrev pub step_tokens : ℕ → Command → Reply → Snapshot → Before → List Cell → List Granule → List Token
step_tokens n c r snapshot before registers granules =
    parts_tokens n c r (registers_tokens snapshot.registers registers) (changed_granules_tokens before.granule r snapshot.tags.items granules) (changed_blocks_tokens r (due_in_snapshot snapshot) before.base)
    (taken_tags_tokens r snapshot granules)

-- Granule k may have another tag after the command.
abbrev pub is_stale : Option (ℕ × Granule) → Reply → ℕ → Bool
is_stale (Some at) r k = k == at.0
is_stale None r k = takes_tags r

-- The blocks that wait after a command, as they were given up, those that are painted, and whether an epoch is open.
abbrev pub waiting_after : Reply → Bool → List Span → ℕ → List Span
waiting_after (Block base top) is_open waiting start = waiting
waiting_after (BlockAfter base top cleared) is_open waiting start = if is_open then waiting else []
waiting_after NoSpace is_open waiting start = waiting
waiting_after (NoSpaceAfter cleared) is_open waiting start = if is_open then waiting else []
waiting_after (Held bytes) is_open waiting start = waiting ++ (start, bytes) ∷ []
waiting_after Done is_open waiting start = waiting
waiting_after Cleared is_open waiting start = waiting
waiting_after (Swept cleared released) is_open waiting start = if is_open then waiting else []
waiting_after (Begun cleared) is_open waiting start = []
waiting_after (Shown shown) is_open waiting start = waiting
waiting_after (Trap trap) is_open waiting start = waiting

abbrev pub painted_after : Reply → List Span → List Span → List Span
painted_after (Block base top) waiting painted = painted
painted_after (BlockAfter base top cleared) waiting painted = []
painted_after NoSpace waiting painted = painted
painted_after (NoSpaceAfter cleared) waiting painted = []
painted_after (Held bytes) waiting painted = painted
painted_after Done waiting painted = painted
painted_after Cleared waiting painted = painted
painted_after (Swept cleared released) waiting painted = []
painted_after (Begun cleared) waiting painted = waiting
painted_after (Shown shown) waiting painted = painted
painted_after (Trap trap) waiting painted = painted

abbrev pub open_after : Reply → Bool → Bool
open_after (Block base top) is_open = is_open
open_after (BlockAfter base top cleared) is_open = false
open_after NoSpace is_open = is_open
open_after (NoSpaceAfter cleared) is_open = false
open_after (Held bytes) is_open = is_open
open_after Done is_open = is_open
open_after Cleared is_open = is_open
open_after (Swept cleared released) is_open = false
open_after (Begun cleared) is_open = true
open_after (Shown shown) is_open = is_open
open_after (Trap trap) is_open = is_open

-- The same is seen, and the blocks that wait are in the order of their starts where the reply tells of a pass.
pub record IsPutInOrder (old new : Snapshot) (r : Reply) : Type 0 where
  pub waiting : IsPermutation (spans_of new.waiting.items) (spans_of old.waiting.items)
  pub order : tells_pass r ≡ true → IsNonDecreasingBy start_of (spans_of new.waiting.items)
  pub registers : new.registers ≡ old.registers
  pub tags : new.tags ≡ old.tags
  pub painted : new.painted ≡ old.painted
  pub is_open : new.is_open ≡ old.is_open

-- What is seen after a command that left this state.
pub record IsNextSnapshot (old new : Snapshot) (before : Before) (r : Reply) (s : State) : Type 0 where
  pub registers : new.registers ≡ s.registers
  pub count : 64 * length new.tags.items ≡ length s.granules
  pub bits : ((k : ℕ) → k < length s.granules → is_stale before.granule r k ≡ false → is_set_for old.tags.items k ≡ is_tagged s.granules k)
      → (k : ℕ) → k < length s.granules → is_set_for new.tags.items k ≡ is_tagged s.granules k
  pub waiting : spans_of new.waiting.items ≡ waiting_after r old.is_open (spans_of old.waiting.items) before.base
  pub painted : spans_of new.painted.items ≡ painted_after r (spans_of old.waiting.items) (spans_of old.painted.items)
  pub is_open : new.is_open ≡ open_after r old.is_open

-- The command at line n was done, from one state to the other, and its line was added to the text; and this is seen then.
pub record Records (old : State) (n : ℕ) (c : Command) (new : State) (snapshot : Snapshot) (before after : List ℕ) : Type 0 where
  pub reply : Reply
  pub step : Step old c reply new
  pub safe : IsSafe new
  pub is_snapshot : IsSnapshot snapshot new
  pub text : after ≡ before ++ data_line_text (line_tokens n c reply old new)

-- These commands were done, from the first state to this one; their lines were added to the text; and this is seen now.
pub record Recorded (first : State) (items : List (ℕ × Command)) (now : State) (snapshot : Snapshot) (before text : List ℕ) : Type 0 where
  pub lines : List ℕ
  pub tells : Tells first items lines now
  pub safe : IsSafe now
  pub is_snapshot : IsSnapshot snapshot now
  pub text_is : text ≡ before ++ lines
