-- A heap as a caller sees it. Blocks in use are live. Blocks that were given up are held, in
-- quarantine, until their bytes may be used again (Filardo et al. 2020, Cornucopia: the quarantine and its
-- epochs of revocation): they wait, until an epoch begins and paints them. What is given up in an open epoch waits
-- for the next one.
use Rattle.std.specs.Prelude.{◌≡◌, ◌<◌, ◌≤◌, ◌+◌, ◌*◌, ◌%◌, ℕ, Bool, false, true, List, [], All, AllPairs, if◌then◌else◌}
use Rattle.heap_model.specs.Blocks.{IsApart, IsBefore, Span, bytes_in, end_of, length_of, start_of}
use Rattle.tag_memory.specs.Extent.{is_base, is_size}

-- The heap is the `size` addresses from `base` on. The held blocks are those that wait and those that are painted;
-- an epoch is open or none is.
pub record HeapState : Type 0 where
  pub base : ℕ
  pub size : ℕ
  pub live : List Span
  pub waiting : List Span
  pub painted : List Span
  pub is_open : Bool

-- The heap in which no block is live or held, and no epoch is open.
abbrev pub empty_heap : ℕ → ℕ → HeapState
empty_heap base pages = record { base = base; size = 4096 * pages; live = []; waiting = []; painted = []; is_open = false }

-- The bytes of the held blocks.
abbrev pub held_bytes : HeapState → ℕ
held_bytes s = bytes_in s.waiting + bytes_in s.painted

-- The blocks that are due: those that the next pass of a revoker is about. In an open epoch they are the painted ones,
-- and else those that wait.
unfoldable pub due : HeapState → List Span
due s = if s.is_open then s.painted else s.waiting

-- The block is whole granules of 16 bytes, at least one, all inside the heap.
pub record IsInside (s : HeapState) (block : Span) : Type 0 where
  pub start : start_of block % 16 ≡ 0
  pub length : length_of block % 16 ≡ 0
  pub some : 0 < length_of block
  pub from : s.base ≤ start_of block
  pub end : end_of block ≤ s.base + s.size

-- What holds of every heap: it is some whole pages that may begin at its base, its blocks lie inside it
-- in the order of their starts, no two of them, live or held, share an address, and none is painted unless an epoch is
-- open.
pub record IsSound (s : HeapState) : Type 0 where
  pub pages : ℕ
  pub bytes : s.size ≡ 4096 * pages
  pub size : is_size pages ≡ true
  pub place : is_base s.base pages ≡ true
  pub live_inside : All (IsInside s) s.live
  pub waiting_inside : All (IsInside s) s.waiting
  pub painted_inside : All (IsInside s) s.painted
  pub live_order : AllPairs IsBefore s.live
  pub waiting_order : AllPairs IsBefore s.waiting
  pub painted_order : AllPairs IsBefore s.painted
  pub apart_waiting : All (λ block. All (IsApart block) s.waiting) s.live
  pub apart_painted : All (λ block. All (IsApart block) s.painted) s.live
  pub apart_held : All (λ block. All (IsApart block) s.painted) s.waiting
  pub closed : s.is_open ≡ false → s.painted ≡ []
