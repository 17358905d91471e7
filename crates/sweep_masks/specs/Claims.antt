-- How tasks are claimed by the bits of a board: task k by bit k.
use Rattle.std.specs.Prelude.{◌≡◌, ◌≤◌, ◌<◌, ◌/◌, ◌%◌, ◌^◌, All, Bool, List, ℕ}
use Rattle.mark_board.specs.Bits.{with_bits, has}
use Rattle.mark_board.specs.Board.{BoardState, SeatState}
use Rattle.sweep_masks.specs.Gather.{IsSwept, times}
use Rattle.sweep_masks.specs.Tasks.{Cut, IsTask, IsTaskCount, page_count}
use Rattle.sweep_masks.specs.declared.task.Swept.{Swept}
use Rattle.tag_memory.specs.Cells.{MemoryState}

-- The board has a bit for each task of the memory.
abbrev pub HasTasks : Cut → MemoryState → BoardState → Type 0
HasTasks c m board = IsTaskCount c (page_count m) board.bits

-- The bits of the tasks from `from` up to `end` are there.
abbrev pub HasAll : List ℕ → ℕ → ℕ → Type 0
HasAll words from end = (k : ℕ) → from ≤ k → k < end → has words k ≡ 1

-- With the bit of one task more.
abbrev pub with_task : List ℕ → ℕ → List ℕ
with_task words k = with_bits words (k / 64) (2 ^ (k % 64))

-- A set of bits says of each task how often it stands in a list.
abbrev pub Accounts : List ℕ → List Swept → Type 0
Accounts own items = (k : ℕ) → times k items ≡ has own k

-- What a seat comes to that has tried every task of a board: it has seen them all, and has claimed just
-- the tasks of a list, each once, which were swept.
pub record IsDone (m : MemoryState) (shadow : List Bool) (c : Cut) (tasks : ℕ) (seat : SeatState) (items : List Swept) : Type 0 where
  pub swept : All (IsSwept m shadow c) items
  pub accounts : Accounts seat.mine items
  pub tried : HasAll seat.seen 0 tasks

-- The items are of tasks that were swept, and each task is there once.
pub record AreAllSwept (m : MemoryState) (shadow : List Bool) (c : Cut) (items : List Swept) : Type 0 where
  pub swept : All (IsSwept m shadow c) items
  pub once : (k : ℕ) → times k items ≤ 1
  pub all : (k : ℕ) → IsTask c (page_count m) k → times k items ≡ 1
