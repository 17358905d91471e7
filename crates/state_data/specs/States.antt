-- A run as data: a line of JSON for the heap, one for each command, with what it changed, and one for the end.
use Rattle.std.specs.Prelude.{◌≡◌, ℕ, ◌&&◌, Bool, true, false, List, [], ◌∷◌, ◌++◌, if◌then◌else◌, Ok, codes, length}
use Rattle.std.specs.Fmt.{decimal}
use Rattle.heap_model.specs.Blocks.{bytes_in}
use Rattle.heap_model.specs.Heap.{due, held_bytes}
use Rattle.machine_steps.specs.State.{State, first_state, tags_of}
use Rattle.machine_steps.specs.Step.{Step}
use Rattle.heap_reply.specs.ReplyText.{text_of_reply}
use Rattle.heap_reply.specs.Display.{hexadecimal_text}
use Rattle.heap_reply.specs.declared.reply.Reply.{Reply}
use Rattle.heap_reply.specs.declared.reply.Reply.TheVariants.{Block, BlockAfter, NoSpace, NoSpaceAfter, Held, Done, Cleared, Swept, Begun, Shown, Trap}
use Rattle.trace_report.specs.Report.{free_of}
use Rattle.json.specs.Print.{print}
use Rattle.json.specs.Token.{Token, begin_object, end_object, key, number, string}
use Rattle.trace_text.specs.Reading.{Script, trace_of}
use Rattle.trace_text.specs.declared.trace.Command.{Command}
use Rattle.data_tokens.specs.Blocks.{blocks_tokens}
use Rattle.data_tokens.specs.Changes.{granules_tokens, registers_tokens}
use Rattle.data_tokens.specs.Line.{list_tokens}
use Rattle.data_tokens.specs.Taken.{is_granule_taken, is_register_taken, taken_tokens}
use Rattle.data_tokens.specs.Text.{command_text}

-- The reply tells of a pass over memory.
abbrev pub tells_pass : Reply → Bool
tells_pass (Block base top) = false
tells_pass (BlockAfter base top cleared) = true
tells_pass NoSpace = false
tells_pass (NoSpaceAfter cleared) = true
tells_pass (Held bytes) = false
tells_pass Done = false
tells_pass Cleared = false
tells_pass (Swept cleared released) = true
tells_pass (Begun cleared) = true
tells_pass (Shown shown) = false
tells_pass (Trap trap) = false

-- And of one over the registers.
abbrev pub tells_registers : Reply → Bool
tells_registers (Block base top) = false
tells_registers (BlockAfter base top cleared) = true
tells_registers NoSpace = false
tells_registers (NoSpaceAfter cleared) = true
tells_registers (Held bytes) = false
tells_registers Done = false
tells_registers Cleared = false
tells_registers (Swept cleared released) = true
tells_registers (Begun cleared) = false
tells_registers (Shown shown) = false
tells_registers (Trap trap) = false

-- The tags that the pass took of which the reply tells: those of words whose base lies in a block that was due.
abbrev pub pass_tokens : Reply → State → List Token
pass_tokens r old =
    if tells_pass r
    then taken_tokens (λ k. tells_registers r && is_register_taken (due old.heap) old.registers k) (is_granule_taken (due old.heap) old.granules) (length old.granules)
    else []

-- A command and its reply.
abbrev pub head_tokens : ℕ → Command → Reply → List Token
head_tokens n c r =
    begin_object ∷ key (codes "line") ∷ number (decimal n) ∷ key (codes "text") ∷ string (command_text c) ∷ key (codes "reply") ∷ string (text_of_reply r) ∷ []

-- What is told of a command at line n: with its reply the registers, the granules and the blocks that changed, and the tags
-- that a pass took.
abbrev pub parts_tokens : ℕ → Command → Reply → List Token → List Token → List Token → List Token → List Token
parts_tokens n c r registers granules blocks pass =
    head_tokens n c r
    ++ (list_tokens (codes "registers") registers ++ (list_tokens (codes "granules") granules ++ (list_tokens (codes "blocks") blocks ++ (pass ++ end_object ∷ []))))

-- Where it took one state to the other.
abbrev pub line_tokens : ℕ → Command → Reply → State → State → List Token
line_tokens n c r old new =
    parts_tokens n c r (registers_tokens old.registers new.registers) (granules_tokens old.granules new.granules) (blocks_tokens old.heap new.heap) (pass_tokens r old)

-- What is told of the heap.
abbrev pub heap_tokens : ℕ → ℕ → List Token
heap_tokens base pages =
    begin_object ∷ key (codes "heap") ∷ begin_object ∷ key (codes "base") ∷ string (hexadecimal_text base) ∷ key (codes "pages") ∷ number (decimal pages)
    ∷ end_object ∷ end_object ∷ []

-- The numbers of the report's last line.
abbrev pub end_numbers : State → List Token
end_numbers s =
    key (codes "live") ∷ number (decimal (bytes_in s.heap.live)) ∷ key (codes "held") ∷ number (decimal (held_bytes s.heap))
    ∷ key (codes "free") ∷ number (decimal (free_of s.heap)) ∷ key (codes "tags") ∷ number (decimal (tags_of s)) ∷ []

-- What is told at the end.
abbrev pub end_tokens : State → List Token
end_tokens s = begin_object ∷ key (codes "end") ∷ begin_object ∷ (end_numbers s ++ end_object ∷ end_object ∷ [])

-- A line of these tokens.
abbrev pub data_line_text : List Token → List ℕ
data_line_text tokens = print tokens ++ codes "\n"

-- The commands, one step after another, have these lines and leave the state new.
abbrev pub Tells : State → List (ℕ × Command) → List ℕ → State → Type 0
Tells old [] text new = (text ≡ []) × (new ≡ old)
Tells old (c ∷ cs) text new =
    (r : Reply) × (mid : State) × (rest : List ℕ) × Step old c.1 r mid × Tells mid cs rest new × (text ≡ data_line_text (line_tokens c.0 c.1 r old mid) ++ rest)

-- The data of a trace.
pub record IsScriptData (script : Script) (text : List ℕ) : Type 0 where
  pub last : State
  pub lines : List ℕ
  pub tells : Tells (first_state script.base script.pages) script.commands lines last
  pub text_is : text ≡ data_line_text (heap_tokens script.base script.pages) ++ (lines ++ data_line_text (end_tokens last))

-- The data of the trace that a text is.
pub record IsDataOf (text told : List ℕ) : Type 0 where
  pub script : Script
  pub trace : trace_of text ≡ Ok script
  pub is_data : IsScriptData script told
