-- The first word of a process: the program's own name, whatever name the process was started by.
use Rattle.std.specs.Prelude.{◌≡◌, ◌<◌, ℕ, List, Result, Ok, Err, codes, length, take}
use Rattle.std.specs.declared.env.FillError.{FillError}
use Rattle.std.specs.declared.env.FillError.TheVariants.{TooLong}

abbrev pub program_name : List ℕ
program_name = codes "heap_tool"

-- The buffer begins with the name, whose length is answered, or it is shorter than the name.
abbrev pub GivesName : Result ℕ FillError → List ℕ → Type 0
GivesName (Ok count) buffer = take count buffer ≡ program_name
GivesName (Err error) buffer = (error ≡ TooLong) × (length buffer < length program_name)
