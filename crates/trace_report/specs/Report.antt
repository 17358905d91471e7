-- The text of a report: a line for each command, and a last line (this project's own profile).
use Rattle.std.specs.Prelude.{ℕ, ◌-◌, List, [], ◌∷◌, ◌++◌, codes}
use Rattle.std.specs.Fmt.{decimal}
use Rattle.std.specs.List.{concat}
use Rattle.heap_model.specs.Blocks.{bytes_in}
use Rattle.heap_model.specs.Heap.{HeapState, held_bytes}
use Rattle.trace_text.specs.declared.trace.Command.{Command}
use Rattle.trace_text.specs.declared.trace.Command.TheVariants.{Malloc, Free, Copy, SetAddr, Narrow, AndPerm, StoreCap, LoadCap, Write, Show, Sweep, Begin, End}
use Rattle.heap_reply.specs.declared.reply.Reply.{Reply}
use Rattle.machine_steps.specs.State.{State, tags_of}
use Rattle.trace_report.specs.declared.report.Sums.{Sums}
pub use Rattle.heap_reply.specs.ReplyText.{text_of_reply, block_text, shown_text, trap_name}

-- The first word of a command.
abbrev pub name_of : Command → List ℕ
name_of (Malloc rd size) = codes "malloc"
name_of (Free rs) = codes "free"
name_of (Copy rd rs) = codes "copy"
name_of (SetAddr rd rs address) = codes "setaddr"
name_of (Narrow rd rs length) = codes "narrow"
name_of (AndPerm rd rs mask) = codes "andperm"
name_of (StoreCap ra rs) = codes "storecap"
name_of (LoadCap rd ra) = codes "loadcap"
name_of (Write ra bytes) = codes "write"
name_of (Show rs) = codes "show"
name_of Sweep = codes "sweep"
name_of Begin = codes "begin"
name_of End = codes "end"

-- The line of a command at line n.
abbrev pub line_text : ℕ → Command → Reply → List ℕ
line_text n c r = concat (decimal n ∷ codes " " ∷ name_of c ∷ codes " " ∷ text_of_reply r ∷ codes "\n" ∷ [])

abbrev pub lines_text : List (ℕ × Command) → List Reply → List ℕ
lines_text (c ∷ cs) (r ∷ rs) = line_text c.0 c.1 r ++ lines_text cs rs
lines_text [] rs = []
lines_text (c ∷ cs) [] = []

-- The bytes in no block.
abbrev pub free_of : HeapState → ℕ
free_of h = h.size - bytes_in h.live - held_bytes h

-- The last line with these sums: the bytes in live blocks, in held blocks, waiting or painted, and in neither, and the tags.
abbrev pub end_line : Sums → List ℕ
end_line sums =
    concat (
    codes "end live " ∷ decimal sums.live ∷ codes " held " ∷ decimal sums.held
    ∷ codes " free " ∷ decimal sums.free ∷ codes " tags " ∷ decimal sums.tags ∷ codes "\n" ∷ []
    )

-- The sums of a state, and its last line.
abbrev pub sums_of : State → Sums
sums_of s = record { live = bytes_in s.heap.live; held = held_bytes s.heap; free = free_of s.heap; tags = tags_of s }

abbrev pub end_text : State → List ℕ
end_text s = end_line (sums_of s)

-- The report of commands with their lines, so answered, that left this state.
abbrev pub report_text : List (ℕ × Command) → List Reply → State → List ℕ
report_text commands replies last = lines_text commands replies ++ end_text last
