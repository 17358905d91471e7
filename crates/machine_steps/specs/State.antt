-- The state of a machine: one heap, its memory and 32 registers (this project's own profile).
use Rattle.std.specs.Prelude.{ℕ, ◌+◌, List, count_by, drop}
use Rattle.heap_model.specs.Heap.{HeapState, empty_heap}
use Rattle.tag_memory.specs.Cells.{Cell, Granule, new_memory, new_registers, register_at, registers_with}

pub record State : Type 0 where
  pub heap : HeapState
  pub granules : List Granule
  pub registers : List Cell

-- The first state of a heap of so many pages at base: zero, untagged, without a block.
abbrev pub first_state : ℕ → ℕ → State
first_state base pages = record { heap = empty_heap base pages; granules = (new_memory base pages).granules; registers = new_registers }

-- What a register reads as.
abbrev pub register : State → ℕ → Cell
register s r = register_at s.registers r

-- The state after a write to a register.
abbrev pub with_register : State → ℕ → Cell → State
with_register s r cell = record s { registers = registers_with s.registers r cell }

-- How many granules and registers are tagged. Register 0 never is.
abbrev pub tags_of : State → ℕ
tags_of s = count_by (λ c. c.1) s.granules + count_by (λ c. c.1) (drop 1 s.registers)
