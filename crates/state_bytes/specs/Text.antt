-- The bytes that tell of a machine's state: a head, then its granules, its registers and its pages, each of them in as
-- many bytes as any other of its sort. So the texts of two heaps of as many pages are as long.
use Rattle.std.specs.Prelude.{◌+◌, ◌-◌, ◌*◌, ◌%◌, ◌==◌, ℕ, zero, suc, Bool, List, [], ◌∷◌, ◌++◌, false, if◌then◌else◌, length, slice_index_or}
use Rattle.byteorder.specs.Endian.{little_bytes}
use Rattle.heap_model.specs.Blocks.{Span, length_of, start_of}
use Rattle.heap_model.specs.Heap.{HeapState}
use Rattle.heap_model.specs.declared.block.Kind.{Kind}
use Rattle.heap_model.specs.declared.block.Kind.TheVariants.{Live, Painted, Waiting}
use Rattle.heap_machine.specs.Storage.{MachineState}
use Rattle.tag_memory.specs.Cells.{Cell, Granule, is_dirty_at, register_at, register_count}

-- A flag in a byte.
abbrev pub flag_byte : Bool → ℕ
flag_byte flag = if flag then 1 else 0

-- ---- blocks

-- The length of the block that starts at an address, or 0 where none does.
abbrev pub starts_in : List Span → ℕ → ℕ
starts_in [] a = 0
starts_in (b ∷ blocks) a = if start_of b == a then length_of b else starts_in blocks a

-- The number of a kind of block.
abbrev pub kind_number : Kind → ℕ
kind_number Live = 1
kind_number Waiting = 2
kind_number Painted = 3

-- A block's length and the number of its kind in one: lengths are multiples of 16. A length of 0 stands for no block.
abbrev pub block_code : ℕ → ℕ → ℕ
block_code kind zero = 0
block_code kind (suc length) = suc length + kind

-- The length that such a number tells of a block of this kind: 0 where it tells of another, or of none.
abbrev pub length_told : ℕ → ℕ → ℕ
length_told kind number = if number % 16 == kind then number - kind else 0

-- The number of the block that starts at an address, or 0. No two blocks do.
abbrev pub block_number : HeapState → ℕ → ℕ
block_number heap a = block_code 1 (starts_in heap.live a) + (block_code 2 (starts_in heap.waiting a) + block_code 3 (starts_in heap.painted a))

-- ---- the parts of a text

-- The texts of 0 to n - 1, one after the other.
unfoldable pub texts_below : (ℕ → List ℕ) → ℕ → List ℕ
texts_below text zero = []
texts_below text (suc n) = texts_below text n ++ text n

-- Where the heap lies, how many pages it has, and whether an epoch is open.
unfoldable pub head_text : ℕ → ℕ → Bool → List ℕ
head_text base pages is_open = little_bytes 8 base ++ (little_bytes 4 pages ++ (flag_byte is_open ∷ []))

-- A granule: its bytes, its tag, and which block starts at it.
unfoldable pub granule_text : HeapState → ℕ → Granule → List ℕ
granule_text heap i granule = little_bytes 16 granule.0 ++ ((flag_byte granule.1 ∷ []) ++ little_bytes 4 (block_number heap (heap.base + 16 * i)))

-- All granules.
unfoldable pub memory_text : HeapState → List Granule → List ℕ
memory_text heap granules = texts_below (λ i. granule_text heap i (slice_index_or granules i (0, false))) (length granules)

-- A register: its bytes and its tag.
unfoldable pub register_text : List Cell → ℕ → List ℕ
register_text registers r = little_bytes 16 (register_at registers r).0.bits ++ (flag_byte (register_at registers r).1 ∷ [])

-- Whether a page is dirty.
unfoldable pub dirty_text : List Bool → ℕ → List ℕ
dirty_text dirty page = flag_byte (is_dirty_at dirty page) ∷ []

-- ---- the whole

-- The text of a machine. How its sweeps are cut is no part of it.
abbrev pub text_of : MachineState → List ℕ
text_of m =
    head_text m.state.heap.base (length m.dirty) m.state.heap.is_open
    ++ (memory_text m.state.heap m.state.granules
    ++ (texts_below (register_text m.state.registers) register_count
    ++ texts_below (dirty_text m.dirty) (length m.dirty)))

-- How long the text of a heap of so many pages is: 13 bytes of the head, 21 a granule, 17 a register and 1 a page.
abbrev pub text_length : ℕ → ℕ
text_length pages = 557 + 5377 * pages
