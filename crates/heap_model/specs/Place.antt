-- Where a block may lie, and where one of a size goes: to the least place that is free. That choice is this project's
-- profile. How long the block is, and what its start is a multiple of, follow from what a capability can hold.
use Rattle.std.specs.Prelude.{◌≡◌, ◌<◌, ◌≤◌, ◌+◌, ◌%◌, ℕ, max, All, Option, Result, IfOk, IfSome}
use Rattle.cap_codec.specs.Rounding.{length_for, round_up, unit_for}
use Rattle.heap_model.specs.Blocks.{IsApart, blocks_with}
use Rattle.heap_model.specs.Heap.{HeapState}

-- A block of so many bytes may start at a: whole granules of 16 bytes, at least one, inside the heap, where it shares no
-- address with another block.
pub record IsFreeBlock (s : HeapState) (a length : ℕ) : Type 0 where
  pub start : a % 16 ≡ 0
  pub whole : length % 16 ≡ 0
  pub some : 0 < length
  pub from : s.base ≤ a
  pub end : a + length ≤ s.base + s.size
  pub live : All (IsApart (a, length)) s.live
  pub waiting : All (IsApart (a, length)) s.waiting
  pub painted : All (IsApart (a, length)) s.painted

-- The heap with a live block of so many bytes more, at a.
abbrev pub with_block : HeapState → ℕ → ℕ → HeapState
with_block s a length = record s { live = blocks_with (a, length) s.live }

-- A size in bytes, up to whole granules of 16 bytes. A size of 0 counts as 1.
abbrev pub granule_size : ℕ → ℕ
granule_size size = round_up 4 (max 1 size)

-- How many bytes a block of that size has.
abbrev pub block_length : ℕ → ℕ
block_length size = length_for (granule_size size)

-- What the start of a block of that size is a multiple of, beside 16.
abbrev pub block_unit : ℕ → ℕ
block_unit size = unit_for (granule_size size)

-- A block of that size may start at a: inside the heap, at a multiple of 16 and of its unit, where it
-- shares no address with another block.
pub record IsFree (s : HeapState) (size a : ℕ) : Type 0 where
  pub granule : a % 16 ≡ 0
  pub unit : a % block_unit size ≡ 0
  pub from : s.base ≤ a
  pub end : a + block_length size ≤ s.base + s.size
  pub live : All (IsApart (a, block_length size)) s.live
  pub waiting : All (IsApart (a, block_length size)) s.waiting
  pub painted : All (IsApart (a, block_length size)) s.painted

-- a is the least address at which it may start.
pub record IsPlace (s : HeapState) (size a : ℕ) : Type 0 where
  pub free : IsFree s size a
  pub least : (b : ℕ) → IsFree s size b → a ≤ b

-- The heap with a live block of that size more, at a.
abbrev pub with_live : HeapState → ℕ → ℕ → HeapState
with_live s size a = with_block s a (block_length size)

-- P of the value in an `Ok (Some ..)`.
abbrev pub IfOkSome : {T E : Type 0} → Result (Option T) E → (T → Type 0) → Type 0
IfOkSome result P = IfOk result (λ found. IfSome found P)
