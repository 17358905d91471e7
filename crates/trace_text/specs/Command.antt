-- Commands that can be carried out, in this project's own trace language.
use Rattle.std.specs.Prelude.{ℕ, ◌<◌, ◌^◌}
use Rattle.trace_text.specs.declared.trace.Command.{Command}
use Rattle.trace_text.specs.declared.trace.Command.TheVariants.{Malloc, Free, Copy, SetAddr, Narrow, AndPerm, StoreCap, LoadCap, Write, Show, Sweep, Begin, End}
use Rattle.tag_memory.specs.Cells.{register_count}

-- each register number is that of a register
abbrev pub IsValid : Command → Type 0
IsValid (Malloc rd size) = rd < register_count
IsValid (Free rs) = rs < register_count
IsValid (Copy rd rs) = (rd < register_count) × (rs < register_count)
IsValid (SetAddr rd rs address) = (rd < register_count) × (rs < register_count)
IsValid (Narrow rd rs length) = (rd < register_count) × (rs < register_count)
IsValid (AndPerm rd rs mask) = (rd < register_count) × (rs < register_count)
IsValid (StoreCap ra rs) = (ra < register_count) × (rs < register_count)
IsValid (LoadCap rd ra) = (rd < register_count) × (ra < register_count)
IsValid (Write ra bytes) = ra < register_count
IsValid (Show rs) = rs < register_count
IsValid Sweep = Unit {0}
IsValid Begin = Unit {0}
IsValid End = Unit {0}

-- a valid command with the number of its line, which has 32 bits
abbrev pub IsListed : ℕ × Command → Type 0
IsListed listed = (listed.0 < 2 ^ 32) × IsValid listed.1
