-- How the parts of a machine are made from given lines.
use Rattle.std.specs.Prelude.{◌≡◌, ◌==◌, ◌+◌, ◌-◌, ◌*◌, ◌/◌, ℕ, Bool, true, false, List, [], ◌∷◌, Option, None, Some, length, slice_index_or, slice_set}
use Rattle.std.specs.BTreeMap.{BTreeMap, Updates, get}
use Rattle.std.specs.List.{All}
use Rattle.std.specs.Ordering.{nat_cmp}
use Rattle.cap_codec.specs.Bytes.{bits_of_bytes}
use Rattle.tag_memory.specs.Cells.{Cell, MemoryState, is_dirty_at, marks_after}
use Rattle.heap_model.specs.Blocks.{is_block}
use Rattle.heap_model.specs.Heap.{HeapState}
use Rattle.heap_model.specs.declared.block.Kind.{Kind}
use Rattle.log_text.specs.declared.log.Given.{Given}
use Rattle.log_text.specs.declared.log.Given.TheVariants.{Granule, Register}
use Rattle.log_text.specs.Log.{first_line}
use Rattle.heap_machine.specs.Making.{LieTogether}
use Rattle.machine_steps.specs.Safety.{HoldsGuarded, IsGuarded}
use Rattle.given_state.specs.Given.{IsGivenAgain, block_of_kind, with_released}
use Rattle.given_state.specs.declared.fault.StartFault.{StartFault}
use Rattle.given_state.specs.declared.fault.StartFault.TheVariants.{Memory, Unsafe}

-- The block with these bounds is live, if there is one.
abbrev pub IsLive : HeapState → Option (ℕ × ℕ) → Type 0
IsLive s None = Unit {0}
IsLive s (Some bounds) = is_block s.live bounds.0 bounds.1 ≡ true

-- Each block of this kind is live when its turn comes to be given up.
abbrev pub AreLiveInTurn : Kind → HeapState → List (ℕ × Given) → Type 0
AreLiveInTurn one s [] = Unit {0}
AreLiveInTurn one s (line ∷ lines) =
    IsLive s (block_of_kind one line.1) × AreLiveInTurn one (with_released s (block_of_kind one line.1)) lines

-- The number of the register or the granule that a line gives: odd for a register, and even for a granule.
abbrev pub place_number : Given → Option ℕ
place_number (Register register tag bytes) = Some (2 * register + 1)
place_number (Granule address tag bytes) = Some (2 * address)
place_number given = None

abbrev pub is_number : ℕ → Option ℕ → Bool
is_number number None = false
is_number number (Some other) = number == other

-- The line gives what has this number.
abbrev pub gives_number : ℕ → Given → Bool
gives_number number given = is_number number (place_number given)

-- What was noted for each number is the line that was the first to give it.
abbrev pub AreNoted : BTreeMap ℕ ℕ → List (ℕ × Given) → Type 0
AreNoted noted lines = (number : ℕ) → get nat_cmp noted number ≡ first_line (gives_number number) lines

-- The line was noted for this number, if there is one, which had none before; or this one was noted for it already.
abbrev pub IsNotedAs : BTreeMap ℕ ℕ → BTreeMap ℕ ℕ → ℕ → Option ℕ → Option ℕ → Type 0
IsNotedAs old new line None found = (found ≡ None) × (new ≡ old)
IsNotedAs old new line (Some number) None = (get nat_cmp old number ≡ None) × Updates nat_cmp old new number (Some line)
IsNotedAs old new line (Some number) (Some earlier) = get nat_cmp old number ≡ Some earlier

-- Why lines don't give each word once.
abbrev pub IsFaultOfWords : List (ℕ × Given) → StartFault → Type 0
IsFaultOfWords lines Memory = Unit {0}
IsFaultOfWords lines (Unsafe line lack) = IsGivenAgain lines line lack

-- The memory once the granule at this address, which is in it, is written.
abbrev pub memory_with : MemoryState → ℕ → Bool → List ℕ → MemoryState
memory_with m address tag bytes =
    let i = (address - m.base) / 16 in
    record m { granules = slice_set m.granules i (bits_of_bytes bytes, tag); may_hold = marks_after m.may_hold i tag; dirty = marks_after m.dirty i tag }

-- The memory with what a line gives.
abbrev pub with_given_memory : MemoryState → Given → MemoryState
with_given_memory m (Granule address tag bytes) = memory_with m address tag bytes
with_given_memory m given = m

-- Each tagged granule stands in a dirty page.
abbrev pub AreTagsDirty : MemoryState → Type 0
AreTagsDirty m = (i : ℕ) → (slice_index_or m.granules i (0, false)).1 ≡ true → is_dirty_at m.dirty (i / 256) ≡ true

-- The memory and the registers can be a machine's, with this heap.
pub record FitHeap (s : HeapState) (m : MemoryState) (registers : List Cell) : Type 0 where
  pub together : LieTogether s m
  pub pages : length m.granules ≡ 256 * length m.dirty
  pub words : All (IsGuarded s) registers
  pub granules : All (HoldsGuarded s) m.granules
  pub dirty : AreTagsDirty m
