-- How the pages of a memory are cut into tasks (this project's own profile). Task k is the pages from
-- k * p on, before (k + 1) * p and before the memory's end, where p is the pages a task.
use Rattle.std.specs.Prelude.{◌≤◌, ◌<◌, ◌*◌, ◌+◌, ◌-◌, ◌/◌, ℕ, length, min}
use Rattle.tag_memory.specs.Cells.{MemoryState}
use Rattle.tag_memory.specs.Extent.{page_granules, page_words}

-- What a caller sees of a cutting: how many workers sweep, and how many pages a task has.
pub record Cut : Type 0 where
  pub workers : ℕ
  pub pages_per_task : ℕ

-- What holds of every cutting.
pub record IsCut (c : Cut) : Type 0 where
  pub some_workers : 1 ≤ c.workers
  pub most_workers : c.workers ≤ 64
  pub some_pages : 1 ≤ c.pages_per_task
  pub most_pages : c.pages_per_task ≤ 256

-- n is the number of tasks that these pages make: the least number of tasks that hold them all.
pub record IsTaskCount (c : Cut) (pages n : ℕ) : Type 0 where
  pub enough : pages ≤ n * c.pages_per_task
  pub least : (m : ℕ) → pages ≤ m * c.pages_per_task → n ≤ m

-- The first page of task k, and the page after its last.
abbrev pub first_page : Cut → ℕ → ℕ
first_page c k = k * c.pages_per_task

abbrev pub end_page : Cut → ℕ → ℕ → ℕ
end_page c pages k = min (first_page c k + c.pages_per_task) pages

-- These pages have a task k.
abbrev pub IsTask : Cut → ℕ → ℕ → Type 0
IsTask c pages k = first_page c k < pages

-- How many words the masks of task k take, four a page.
abbrev pub task_words : Cut → ℕ → ℕ → ℕ
task_words c pages k = page_words * (end_page c pages k - first_page c k)

-- How many pages a memory has.
abbrev pub page_count : MemoryState → ℕ
page_count m = length m.granules / page_granules
