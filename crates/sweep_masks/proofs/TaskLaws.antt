-- How many tasks a memory can have.
use Rattle.std.proofs.Common.{◌≡◌, ℕ, ◌*◌, ◌<◌, ◌≤◌, true, subst, arith}
use Rattle.std.specs.Prelude.{IsTrue}
use Rattle.std.proofs.lemmas.Grind.{common_steps}
use Rattle.std.proofs.lemmas.Nat.{mul-le}
use Rattle.std.proofs.Math.Decide.{ℕ_discrete}
use mathlib.Core.Logic.{dite}
use Rattle.mark_board.specs.Board as board
use Rattle.sweep_masks.specs.Tasks.{Cut, IsTaskCount, page_count}
use Rattle.tag_memory.specs.Cells.{IsMemory, MemoryState}
use Rattle.tag_memory.specs.Extent as span

few_pages : (n : ℕ) → IsTrue (span.is_size n) → (1 ≤ n) × (n ≤ 1024)
few_pages n is = (grind (arith, common_steps, is), grind (arith, common_steps, is))

pub board_size : (n : ℕ) → 1 ≤ n → n ≤ 262144 → board.is_board_size n ≡ true
board_size n low high = grind (arith, common_steps)

pub board_parts : (n : ℕ) → 1 ≤ n → n ≤ 64 → board.are_parts n ≡ true
board_parts n low high = grind (arith, common_steps)

-- Tasks that hold a page are some, and have pages.
pub some_each : (tasks p pages : ℕ) → 0 < pages → pages ≤ tasks * p → (0 < tasks) × (0 < p)
some_each tasks p pages there enough = (
  dite (ℕ_discrete tasks 0)
      (λ none. let few : pages ≤ 0 * p = subst (λ (z : ℕ). pages ≤ z * p) none enough in absurd (omega arith))
      (λ other. omega arith),
  dite (ℕ_discrete p 0)
      (λ none. let few : pages ≤ tasks * 0 = subst (λ (z : ℕ). pages ≤ tasks * z) none enough in absurd (omega arith))
      (λ other. omega arith),
)

-- There is a task, and there are no more than pages.
pub some_tasks : (m : MemoryState) (c : Cut) (tasks : ℕ) → IsMemory m → IsTaskCount c (page_count m) tasks → (0 < tasks) × (tasks ≤ 1024)
some_tasks m c tasks memory count =
    let few = few_pages memory.pages memory.size in
    let size = memory.count in
    let pages_is : page_count m ≡ memory.pages = omega arith in
    let p : ℕ = c.pages_per_task in
    let some = some_each tasks p (page_count m) (omega arith) count.enough in
    let more : page_count m * 1 ≤ page_count m * p = mul-le (page_count m) 1 (page_count m) p (omega arith) some.1 in
    let least : tasks ≤ page_count m = count.least (page_count m) (omega arith) in
    (some.0, omega arith)
