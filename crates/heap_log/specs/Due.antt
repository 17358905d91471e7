-- The words that are due: tagged, with their base in a block that the next pass of a revoker is about.
use Rattle.std.specs.Prelude.{ℕ, ◌+◌, ◌*◌, Bool, false, suc, zero, List, [], ◌∷◌, ◌++◌, Option, None, Some, length, slice_index_or, if◌then◌else◌}
use Rattle.cap_codec.specs.Words.{base_of}
use Rattle.heap_model.specs.Blocks.{Span}
use Rattle.heap_model.specs.Heap.{due}
use Rattle.heap_model.specs.Sweep.{takes_tag}
use Rattle.tag_memory.specs.Cells.{Cell, Granule, cell_of, register_at, register_count}
use Rattle.machine_steps.specs.State.{State}
use Rattle.heap_log.specs.declared.due.DueWord.{DueWord}
use Rattle.heap_log.specs.declared.due.DueWord.TheVariants as word

abbrev pub as_list : Option DueWord → List DueWord
as_list None = []
as_list (Some due) = due ∷ []

-- The base of a cell's word, where it is due.
abbrev pub due_base : List Span → Cell → Option ℕ
due_base blocks cell = if takes_tag blocks cell then Some (base_of cell.0) else None

-- The word of register r, where it is due.
abbrev pub in_register : ℕ → Option ℕ → Option DueWord
in_register r None = None
in_register r (Some base) = Some (word.Register r base)

-- The word of the granule at this address, where it is due.
abbrev pub in_granule : ℕ → Option ℕ → Option DueWord
in_granule address None = None
in_granule address (Some base) = Some (word.Granule address base)

-- Those in the first n registers.
abbrev pub due_registers : List Span → List Cell → ℕ → List DueWord
due_registers blocks cells zero = []
due_registers blocks cells (suc n) = due_registers blocks cells n ++ as_list (in_register n (due_base blocks (register_at cells n)))

-- Those in the first n granules from the address `base` on.
abbrev pub due_granules : List Span → ℕ → List Granule → ℕ → List DueWord
due_granules blocks base granules zero = []
due_granules blocks base granules (suc n) =
    due_granules blocks base granules n ++ as_list (in_granule (base + 16 * n) (due_base blocks (cell_of (slice_index_or granules n (0, false)))))

-- Those of a state, registers first, where they count.
abbrev pub due_words : Bool → State → List DueWord
due_words registers_too s =
    (if registers_too then due_registers (due s.heap) s.registers register_count else [])
    ++ due_granules (due s.heap) s.heap.base s.granules (length s.granules)
