-- A heap as a table, which has for each granule the length in granules of the block that starts there,
-- or 0, and a mark that says whether that block is due. (Those that are due in an open epoch alone, since it began,
-- have marks apart from it: `Consistent.antt`.)
use Rattle.std.specs.Prelude.{◌≡◌, ◌<◌, ◌≤◌, ◌+◌, ◌*◌, ◌%◌, nat_lt, ◌&&◌, ◌||◌, not, if◌then◌else◌, ℕ, zero, suc, Bool, true, false, List, [], ◌∷◌, ◌++◌, count_by, length, slice_index, slice_index_or, take}
use Rattle.heap_model.specs.Blocks.{Span}
use Rattle.heap_model.specs.declared.block.Freed.{Freed}
use Rattle.heap_model.specs.declared.block.Freed.TheVariants.{AlreadyHeld, Held, NotBlock}
use Rattle.tag_memory.specs.Extent.{is_base, is_size}

-- The table of a heap.
pub record TableState : Type 0 where
  pub lengths : List ℕ
  pub marks : List Bool

-- The blocks whose marks pass the test, of a table that begins at granule i.
abbrev pub blocks_of : (Bool → Bool) → ℕ → ℕ → List ℕ → List Bool → List Span
blocks_of keeps base i [] marks = []
blocks_of keeps base i (n ∷ lengths) [] = []
blocks_of keeps base i (n ∷ lengths) (mark ∷ marks) =
    (if nat_lt 0 n && keeps mark then (base + 16 * i, 16 * n) ∷ [] else [])
    ++ blocks_of keeps base (i + 1) lengths marks

-- The test that the absence of a mark passes.
abbrev pub is_unmarked : Bool → Bool
is_unmarked mark = not mark

-- The test that a mark passes.
abbrev pub is_marked : Bool → Bool
is_marked mark = mark

-- Granule k lies in a block.
abbrev pub is_occupied : ℕ → List ℕ → Bool
is_occupied k [] = false
is_occupied zero (n ∷ lengths) = nat_lt 0 n
is_occupied (suc k) (n ∷ lengths) = nat_lt (suc k) n || is_occupied k lengths

-- The lengths of the blocks whose marks pass the test, and 0 in place of all others.
abbrev pub kept_lengths : (Bool → Bool) → List ℕ → List Bool → List ℕ
kept_lengths keeps [] marks = []
kept_lengths keeps (n ∷ lengths) [] = []
kept_lengths keeps (n ∷ lengths) (mark ∷ marks) = (if keeps mark then n else 0) ∷ kept_lengths keeps lengths marks

-- The block from start to top starts at granule k.
pub record IsBlockAt (base : ℕ) (lengths : List ℕ) (start top k : ℕ) : Type 0 where
  pub within : k < length lengths
  pub some : 0 < slice_index lengths k
  pub start_is : start ≡ base + 16 * k
  pub top_is : top ≡ start + 16 * slice_index lengths k

-- The block from start to top starts at granule k, and has no mark.
pub record IsLiveAt (base : ℕ) (lengths : List ℕ) (marks : List Bool) (start top k : ℕ) : Type 0 where
  pub at : IsBlockAt base lengths start top k
  pub unmarked : slice_index_or marks k false ≡ false

-- What the bytes from start to top are where they are no such block: no block, or one with a mark.
abbrev pub IsNoLive : ℕ → List ℕ → List Bool → ℕ → ℕ → Freed → Type 0
IsNoLive base lengths marks start top Held = ⊥
IsNoLive base lengths marks start top AlreadyHeld = (k : ℕ) × IsBlockAt base lengths start top k × (slice_index_or marks k false ≡ true)
IsNoLive base lengths marks start top NotBlock = (k : ℕ) → ¬ IsBlockAt base lengths start top k

-- The n granules from p on, at least one, lie in no block.
pub record IsGap (lengths : List ℕ) (p n : ℕ) : Type 0 where
  pub some : 0 < n
  pub end : p + n ≤ length lengths
  pub free : (k : ℕ) → p ≤ k → k < p + n → is_occupied k lengths ≡ false

-- And p is the first such granule that is a multiple of the unit. Multiples are counted from address 0,
-- of which the heap's base is granule `origin`.
pub record IsFirstGap (origin unit : ℕ) (lengths : List ℕ) (p n : ℕ) : Type 0 where
  pub run : IsGap lengths p n
  pub multiple : (origin + p) % unit ≡ 0
  pub least : (q : ℕ) → IsGap lengths q n → (origin + q) % unit ≡ 0 → p ≤ q

-- The table is one of some pages that may begin at the base, and each block ends inside it and before the next one starts.
pub record IsTable (base : ℕ) (lengths : List ℕ) (marks : List Bool) : Type 0 where
  pub same : length marks ≡ length lengths
  pub pages : ℕ
  pub count : length lengths ≡ 256 * pages
  pub size : is_size pages ≡ true
  pub place : is_base base pages ≡ true
  pub inside : (j : ℕ) → j < length lengths → j + slice_index lengths j ≤ length lengths
  pub apart : (j k : ℕ) → j < k → 0 < slice_index lengths k → j + slice_index lengths j ≤ k

-- How many due blocks these marks say.
abbrev pub marked_count : List Bool → ℕ
marked_count marks = count_by is_marked marks

-- No block is empty: a mark stands only where a block starts.
abbrev pub AreBlocks : List ℕ → List Bool → Type 0
AreBlocks lengths marks = (k : ℕ) → slice_index_or marks k false ≡ true → 0 < slice_index lengths k

-- The due block that has n before it starts at granule p, or p is the end of the table and the last one has fewer.
pub record IsDueStart (lengths : List ℕ) (marks : List Bool) (n p : ℕ) : Type 0 where
  pub before : marked_count (take p marks) ≡ n
  pub within : p ≤ length lengths
  pub due : p < length lengths → slice_index_or marks p false ≡ true

-- The test that marks pass, or the one that their absence passes.
abbrev pub has_mark : Bool → Bool → Bool
has_mark marked mark = if marked then mark else not mark

-- The block that starts at granule k passes the test, and reaches past granule `first`.
pub record ReachesPast (keeps : Bool → Bool) (lengths : List ℕ) (marks : List Bool) (first k : ℕ) : Type 0 where
  pub some : 0 < slice_index lengths k
  pub kept : keeps (slice_index_or marks k false) ≡ true
  pub past : first < k + slice_index lengths k

-- No such block starts before granule `end`.
abbrev pub NonePast : (Bool → Bool) → List ℕ → List Bool → ℕ → ℕ → Type 0
NonePast keeps lengths marks first end = (k : ℕ) → k < end → ¬ ReachesPast keeps lengths marks first k

-- The first such block starts at granule p.
pub record IsFirstPast (keeps : Bool → Bool) (lengths : List ℕ) (marks : List Bool) (first p : ℕ) : Type 0 where
  pub reaches : ReachesPast keeps lengths marks first p
  pub least : NonePast keeps lengths marks first p
