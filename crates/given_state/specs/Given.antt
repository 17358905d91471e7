-- What the given lines of a log tell of: the state in which a heap was when the log begins, and which lines tell of none
-- that is safe. First the blocks are judged, then whether a register or a granule is given again, and then the words, each
-- in the order of their lines.
use Rattle.std.specs.Prelude.{◌≡◌, ◌==◌, ◌<◌, ◌+◌, ◌-◌, ◌*◌, ◌/◌, ℕ, Bool, true, false, List, [], ◌∷◌, ◌++◌, Option, None, Some, fold, if◌then◌else◌, slice_set}
use Rattle.std.specs.List.{All, list_any}
use Rattle.cap_codec.specs.Bytes.{bits_of_bytes}
use Rattle.cap_codec.specs.Words.{bounds_in}
use Rattle.tag_memory.specs.Cells.{Cell, Granule as TheGranule, new_memory, new_registers, null_cell, registers_with}
use Rattle.heap_model.specs.Claim.{IsClaimable, IsReason}
use Rattle.heap_model.specs.Heap.{HeapState, empty_heap}
use Rattle.heap_model.specs.Place.{with_block}
use Rattle.heap_model.specs.Quarantine.{with_epoch, with_waiting}
use Rattle.heap_model.specs.declared.block.Obstacle.{Obstacle}
use Rattle.heap_model.specs.declared.block.Kind.{Kind}
use Rattle.heap_model.specs.declared.block.Kind.TheVariants as kind
use Rattle.log_text.specs.declared.log.Given.{Given}
use Rattle.log_text.specs.declared.log.Given.TheVariants.{Epoch, Granule, Live, Painted, Register, Waiting}
use Rattle.log_text.specs.Log.{first_line}
use Rattle.machine_steps.specs.Safety.{IsGuarded}
use Rattle.machine_steps.specs.State.{State}
use Rattle.given_state.specs.declared.fault.Lack.{Lack}
use Rattle.given_state.specs.declared.fault.Lack.TheVariants.{Block, GranuleAgain, NoGranule, NotNull, RegisterAgain, Unguarded}
use Rattle.given_state.specs.declared.fault.StartFault.{StartFault}
use Rattle.given_state.specs.declared.fault.StartFault.TheVariants.{Memory, Unsafe}

-- ---- blocks

-- The bounds of the block that a line gives, of any kind.
abbrev pub block_in : Given → Option (ℕ × ℕ)
block_in (Live base top) = Some (base, top)
block_in (Waiting base top) = Some (base, top)
block_in (Painted base top) = Some (base, top)
block_in given = None

-- Those of a block of this kind.
abbrev pub block_of_kind : Kind → Given → Option (ℕ × ℕ)
block_of_kind kind.Live (Live base top) = Some (base, top)
block_of_kind kind.Waiting (Waiting base top) = Some (base, top)
block_of_kind kind.Painted (Painted base top) = Some (base, top)
block_of_kind one given = None

-- The heap once a block with these bounds is handed out, if there is one.
abbrev pub with_claimed : HeapState → Option (ℕ × ℕ) → HeapState
with_claimed s None = s
with_claimed s (Some bounds) = with_block s bounds.0 (bounds.1 - bounds.0)

-- The heap once it is given up.
abbrev pub with_released : HeapState → Option (ℕ × ℕ) → HeapState
with_released s None = s
with_released s (Some bounds) = with_waiting s bounds.0 bounds.1

-- The heap once the blocks of these lines are handed out, one after another.
abbrev pub all_claimed : HeapState → List (ℕ × Given) → HeapState
all_claimed s lines = fold (λ h line. with_claimed h (block_in line.1)) s lines

-- The heap once those of this kind are given up, one after another.
abbrev pub all_released : Kind → HeapState → List (ℕ × Given) → HeapState
all_released one s lines = fold (λ h line. with_released h (block_of_kind one line.1)) s lines

-- The line says that an epoch is open. It is where a block is painted.
abbrev pub gives_epoch : Given → Bool
gives_epoch (Painted base top) = true
gives_epoch Epoch = true
gives_epoch given = false

-- The heap once an epoch has begun, where these lines say that one is open.
abbrev pub with_epoch_given : HeapState → List (ℕ × Given) → HeapState
with_epoch_given s lines = if list_any (λ line. gives_epoch line.1) lines then with_epoch s else s

-- The heap that the lines tell of: its blocks are handed out, those that are painted are given up, an epoch begins if one
-- is open, and then those are given up that wait.
unfoldable pub given_heap : ℕ → ℕ → List (ℕ × Given) → HeapState
given_heap base pages lines =
    let claimed = all_claimed (empty_heap base pages) lines in
    all_released kind.Waiting (with_epoch_given (all_released kind.Painted claimed lines) lines) lines

-- ---- words

-- The word that these 16 bytes are, and its tag.
abbrev pub cell_with : Bool → List ℕ → Cell
cell_with tag bytes = (record { bits = bits_of_bytes bytes }, tag)

-- The registers with what a line gives.
abbrev pub with_given_register : List Cell → Given → List Cell
with_given_register registers (Register register tag bytes) = registers_with registers register (cell_with tag bytes)
with_given_register registers given = registers

-- The granules of a heap at base with what a line gives, whose address is that of one of them.
abbrev pub with_given_granule : ℕ → List TheGranule → Given → List TheGranule
with_given_granule base granules (Granule address tag bytes) = slice_set granules ((address - base) / 16) (bits_of_bytes bytes, tag)
with_given_granule base granules given = granules

-- The registers with what the lines give, one after another.
abbrev pub given_registers : List Cell → List (ℕ × Given) → List Cell
given_registers registers lines = fold (λ old line. with_given_register old line.1) registers lines

-- The granules with it.
abbrev pub given_granules : ℕ → List TheGranule → List (ℕ × Given) → List TheGranule
given_granules base granules lines = fold (λ old line. with_given_granule base old line.1) granules lines

-- The state that the lines tell of, of a heap of so many pages at base.
abbrev pub given_state : ℕ → ℕ → List (ℕ × Given) → State
given_state base pages lines = record {
  heap = given_heap base pages lines;
  granules = given_granules base (new_memory base pages).granules lines;
  registers = given_registers new_registers lines;
}

-- ---- lines that are safe

-- A block with these bounds may lie there, if there is one.
abbrev pub MayLie : HeapState → Option (ℕ × ℕ) → Type 0
MayLie s None = Unit {0}
MayLie s (Some bounds) = IsClaimable s bounds.0 bounds.1

-- The blocks of these lines may lie there, each beside those of the lines before it.
abbrev pub MayAllLie : HeapState → List (ℕ × Given) → Type 0
MayAllLie s [] = Unit {0}
MayAllLie s (line ∷ lines) = MayLie s (block_in line.1) × MayAllLie (with_claimed s (block_in line.1)) lines

-- The granule with this number lies at the address. They are counted from the heap's base, a multiple of 16.
pub record LiesAt (s : HeapState) (address i : ℕ) : Type 0 where
  pub at : address ≡ s.base + 16 * i
  pub before_end : 16 * i < s.size

-- A granule of the heap lies at the address.
abbrev pub HasGranule : HeapState → ℕ → Type 0
HasGranule s address = (i : ℕ) × LiesAt s address i

-- Register 0 is always null.
abbrev pub KeepsNull : ℕ → Cell → Type 0
KeepsNull register c = register ≡ 0 → c ≡ null_cell

-- What a line gives may be held: a granule lies at its address, register 0 is null, and its word is guarded.
abbrev pub MayHold : HeapState → Given → Type 0
MayHold s (Register register tag bytes) = KeepsNull register (cell_with tag bytes) × IsGuarded s (cell_with tag bytes)
MayHold s (Granule address tag bytes) = HasGranule s address × IsGuarded s (cell_with tag bytes)
MayHold s given = Unit {0}

-- So it is for each of these lines.
abbrev pub MayAllHold : HeapState → List (ℕ × Given) → Type 0
MayAllHold s lines = All (λ line. MayHold s line.1) lines

-- The lines give the same register, or the same granule.
abbrev pub give_the_same : Given → Given → Bool
give_the_same (Register register tag bytes) (Register other t b) = register == other
give_the_same (Granule address tag bytes) (Granule other t b) = address == other
give_the_same one other = false

-- No line gives what one before it gave: one of those, or of these.
abbrev pub AreNewAfter : List (ℕ × Given) → List (ℕ × Given) → Type 0
AreNewAfter before [] = Unit {0}
AreNewAfter before (line ∷ lines) = (first_line (give_the_same line.1) before ≡ None) × AreNewAfter (before ++ line ∷ []) lines

-- Each register and each granule is given once.
abbrev pub AreGivenOnce : List (ℕ × Given) → Type 0
AreGivenOnce lines = AreNewAfter [] lines

-- The lines are as they must be.
pub record AreSafe (base pages : ℕ) (lines : List (ℕ × Given)) : Type 0 where
  pub blocks : MayAllLie (empty_heap base pages) lines
  pub once : AreGivenOnce lines
  pub words : MayAllHold (given_heap base pages lines) lines

-- ---- lines that aren't

-- Why a block with these bounds may not lie there.
abbrev pub LacksPlace : HeapState → Option (ℕ × ℕ) → Obstacle → Type 0
LacksPlace s None reason = ⊥
LacksPlace s (Some bounds) reason = IsReason s bounds.0 bounds.1 reason

-- The cell isn't guarded, and its word has these bounds.
pub record IsUnguarded (s : HeapState) (c : Cell) (base top : ℕ) : Type 0 where
  pub lacks : ¬ IsGuarded s c
  pub base_is : base ≡ (bounds_in c.0).base
  pub top_is : top ≡ (bounds_in c.0).top

-- The cell lacks this: a block with all bounds of its word.
abbrev pub LacksGuard : HeapState → Cell → Lack → Type 0
LacksGuard s c (Unguarded base top) = IsUnguarded s c base top
LacksGuard s c lack = ⊥

-- What a register's line lacks: that register 0 is null, or else what its word does.
abbrev pub LacksRegister : HeapState → ℕ → Cell → Lack → Type 0
LacksRegister s register c NotNull = ¬ KeepsNull register c
LacksRegister s register c lack = KeepsNull register c × LacksGuard s c lack

-- What a granule's line lacks: a granule of the heap, or else what its word does.
abbrev pub LacksGranule : HeapState → ℕ → Cell → Lack → Type 0
LacksGranule s address c NoGranule = ¬ HasGranule s address
LacksGranule s address c lack = HasGranule s address × LacksGuard s c lack

-- What the line lacks, so that what it gives may not be held.
abbrev pub LacksHold : HeapState → Given → Lack → Type 0
LacksHold s (Register register tag bytes) lack = LacksRegister s register (cell_with tag bytes) lack
LacksHold s (Granule address tag bytes) lack = LacksGranule s address (cell_with tag bytes) lack
LacksHold s given lack = ⊥

-- The first block that may not lie in the heap is this line's, for this reason.
pub record LacksPlaceFirst (s : HeapState) (lines : List (ℕ × Given)) (line : ℕ) (reason : Obstacle) : Type 0 where
  pub before : List (ℕ × Given)
  pub given : Given
  pub after : List (ℕ × Given)
  pub parts : lines ≡ before ++ (line, given) ∷ after
  pub may : MayAllLie s before
  pub lacks : LacksPlace (all_claimed s before) (block_in given) reason

-- The line gives again what this earlier one gave.
abbrev pub GivesAgain : Given → ℕ → Lack → Type 0
GivesAgain (Register register tag bytes) earlier (RegisterAgain number line) = (number ≡ register) × (line ≡ earlier)
GivesAgain (Granule address tag bytes) earlier (GranuleAgain at line) = (at ≡ address) × (line ≡ earlier)
GivesAgain given earlier lack = ⊥

-- The first line that gives what one before it gave is this one.
pub record IsGivenAgain (lines : List (ℕ × Given)) (line : ℕ) (lack : Lack) : Type 0 where
  pub before : List (ℕ × Given)
  pub given : Given
  pub after : List (ℕ × Given)
  pub parts : lines ≡ before ++ (line, given) ∷ after
  pub once : AreGivenOnce before
  pub earlier : ℕ
  pub was : first_line (give_the_same given) before ≡ Some earlier
  pub again : GivesAgain given earlier lack

-- The first line that may not be held in the heap is this one, which lacks this.
pub record LacksHoldFirst (s : HeapState) (lines : List (ℕ × Given)) (line : ℕ) (lack : Lack) : Type 0 where
  pub before : List (ℕ × Given)
  pub given : Given
  pub after : List (ℕ × Given)
  pub parts : lines ≡ before ++ (line, given) ∷ after
  pub may : MayAllHold s before
  pub lacks : LacksHold s given lack

-- The first flaw of words, each of which is given once.
abbrev pub IsFlawOfWords : ℕ → ℕ → List (ℕ × Given) → ℕ → Lack → Type 0
IsFlawOfWords base pages lines line lack = AreGivenOnce lines × LacksHoldFirst (given_heap base pages lines) lines line lack

-- The first flaw of the lines: one of a block, or, where all blocks may lie there, a word that is given again, or one that may
-- not be held.
abbrev pub IsFirstFlaw : ℕ → ℕ → List (ℕ × Given) → ℕ → Lack → Type 0
IsFirstFlaw base pages lines line (Block reason) = LacksPlaceFirst (empty_heap base pages) lines line reason
IsFirstFlaw base pages lines line (RegisterAgain register earlier) =
    MayAllLie (empty_heap base pages) lines × IsGivenAgain lines line (RegisterAgain register earlier)
IsFirstFlaw base pages lines line (GranuleAgain address earlier) =
    MayAllLie (empty_heap base pages) lines × IsGivenAgain lines line (GranuleAgain address earlier)
IsFirstFlaw base pages lines line lack = MayAllLie (empty_heap base pages) lines × IsFlawOfWords base pages lines line lack

-- Why no machine was made.
abbrev pub IsFault : ℕ → ℕ → List (ℕ × Given) → StartFault → Type 0
IsFault base pages lines Memory = Unit {0}
IsFault base pages lines (Unsafe line lack) = IsFirstFlaw base pages lines line lack
