-- Where a block came from: the line of a log that hands it out, frees it, or gives it.
use Rattle.std.specs.Prelude.{◌==◌, ◌&&◌, ℕ, Bool, false, List, [], ◌∷◌, ◌++◌, Option, None, Some, if◌then◌else◌}
use Rattle.cap_codec.specs.Words.{bounds_in}
use Rattle.heap_model.specs.declared.block.Block.{Block as BlockBounds}
use Rattle.tag_memory.specs.Cells.{register_at}
use Rattle.trace_text.specs.declared.trace.Command.TheVariants.{Free}
use Rattle.heap_reply.specs.declared.reply.Reply.TheVariants.{Block, BlockAfter, Held}
use Rattle.log_text.specs.declared.log.Event.{Event}
use Rattle.log_text.specs.declared.log.Event.TheVariants.{Done}
use Rattle.log_text.specs.declared.log.Given.{Given}
use Rattle.log_text.specs.declared.log.Given.TheVariants.{Live, Painted, Waiting}
use Rattle.machine_steps.specs.State.{State}
use Rattle.heap_log.specs.Judged.{EventFollows}

-- These are the bounds of the block.
abbrev pub are_bounds : BlockBounds → ℕ → ℕ → Bool
are_bounds block base top = (base == block.base) && (top == block.top)

-- The first of two lines that is one.
abbrev pub later : Option ℕ → Option ℕ → Option ℕ
later (Some line) other = Some line
later None other = other

-- The line of the last of them that passes the test.
abbrev pub last_line : {A : Type 0} → (A → Bool) → List (ℕ × A) → Option ℕ
last_line test [] = None
last_line test (listed ∷ rest) = later (last_line test rest) (if test listed.1 then Some listed.0 else None)

-- The event hands out the block.
abbrev pub hands_out : BlockBounds → Event → Bool
hands_out block (Done command (Block base top)) = are_bounds block base top
hands_out block (Done command (BlockAfter base top cleared)) = are_bounds block base top
hands_out block event = false

-- The line gives the block.
abbrev pub gives : BlockBounds → Given → Bool
gives block (Live base top) = are_bounds block base top
gives block (Waiting base top) = are_bounds block base top
gives block (Painted base top) = are_bounds block base top
gives block given = false

-- In this state the event frees the block: the capability of the register has just its bounds.
abbrev pub frees : BlockBounds → State → Event → Bool
frees block s (Done (Free rs) (Held bytes)) =
    are_bounds block (bounds_in (register_at s.registers rs).0).base (bounds_in (register_at s.registers rs).0).top
frees block s event = false

-- From the state `first` the events follow, and of those that free the block the last has this line.
pub data IsLastFree (first : State) (block : BlockBounds) : List (ℕ × Event) → Option ℕ → State → Type 0 where
  none : IsLastFree first block [] None first
  more : (events : List (ℕ × Event)) (found : Option ℕ) (mid : State) (listed : ℕ × Event) (new : State)
      → IsLastFree first block events found mid → EventFollows mid listed.1 new
      → IsLastFree first block (events ++ listed ∷ []) (if frees block mid listed.1 then Some listed.0 else found) new
