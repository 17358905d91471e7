-- The texts of commands (this project's own profile): each as a trace could have it, with registers by their names,
-- sizes and lengths in decimal, addresses and masks in hexadecimal, and data as 32 lower-case digits.
use Rattle.std.specs.Prelude.{ℕ, List, [], ◌∷◌, codes}
use Rattle.std.specs.Fmt.{decimal}
use Rattle.hex.specs.Hex.{encode_lower}
use Rattle.heap_reply.specs.Display.{hexadecimal_text, join_pieces}
use Rattle.trace_text.specs.declared.trace.Command.{Command}
use Rattle.trace_text.specs.declared.trace.Command.TheVariants.{Malloc, Free, Copy, SetAddr, Narrow, AndPerm, StoreCap, LoadCap, Write, Show, Sweep, Begin, End}

abbrev pub command_text : Command → List ℕ
command_text (Malloc rd size) = join_pieces (codes "malloc c" ∷ decimal rd ∷ codes " " ∷ decimal size ∷ [])
command_text (Free rs) = join_pieces (codes "free c" ∷ decimal rs ∷ [])
command_text (Copy rd rs) = join_pieces (codes "copy c" ∷ decimal rd ∷ codes " c" ∷ decimal rs ∷ [])
command_text (SetAddr rd rs address) = join_pieces (codes "setaddr c" ∷ decimal rd ∷ codes " c" ∷ decimal rs ∷ codes " " ∷ hexadecimal_text address ∷ [])
command_text (Narrow rd rs length) = join_pieces (codes "narrow c" ∷ decimal rd ∷ codes " c" ∷ decimal rs ∷ codes " " ∷ decimal length ∷ [])
command_text (AndPerm rd rs mask) = join_pieces (codes "andperm c" ∷ decimal rd ∷ codes " c" ∷ decimal rs ∷ codes " " ∷ hexadecimal_text mask ∷ [])
command_text (StoreCap ra rs) = join_pieces (codes "storecap c" ∷ decimal ra ∷ codes " c" ∷ decimal rs ∷ [])
command_text (LoadCap rd ra) = join_pieces (codes "loadcap c" ∷ decimal rd ∷ codes " c" ∷ decimal ra ∷ [])
command_text (Write ra bytes) = join_pieces (codes "write c" ∷ decimal ra ∷ codes " " ∷ encode_lower bytes ∷ [])
command_text (Show rs) = join_pieces (codes "show c" ∷ decimal rs ∷ [])
command_text Sweep = codes "sweep"
command_text Begin = codes "begin"
command_text End = codes "end"
