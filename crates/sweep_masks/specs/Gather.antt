-- What a list of swept tasks says of a whole memory, and what is wrong with a list.
use Rattle.std.specs.Prelude.{◌≡◌, ◌≢◌, ◌==◌, ◌≤◌, ◌<◌, ◌+◌, ◌*◌, ℕ, All, Bool, List, [], ◌∷◌, Some, cond, false, length, slice_get, slice_index, slice_index_or, take, true}
use Rattle.sweep_masks.specs.Masks.{ArePageMasks}
use Rattle.sweep_masks.specs.Tasks.{Cut, IsTask, end_page, first_page, page_count, task_words}
use Rattle.sweep_masks.specs.declared.gathering.GatherFault.{GatherFault}
use Rattle.sweep_masks.specs.declared.gathering.GatherFault.TheVariants.{Double, Memory, Missing, Stranger, WrongSize}
use Rattle.sweep_masks.specs.declared.task.Swept.{Swept}
use Rattle.tag_memory.specs.Cells.{MemoryState}
use Rattle.tag_memory.specs.Extent.{page_words}

-- The item has the masks of its task.
abbrev pub IsSwept : MemoryState → List Bool → Cut → Swept → Type 0
IsSwept m shadow c s = IsTask c (page_count m) s.task
    × ArePageMasks m shadow (first_page c s.task) (end_page c (page_count m) s.task) s.masks.items

-- How many items of a list are of task k.
abbrev pub times : ℕ → List Swept → ℕ
times k [] = 0
times k (s ∷ ss) = cond (s.task == k) 1 0 + times k ss

-- The item is of a task that there is, with four words for each of its pages.
abbrev pub IsSized : Cut → ℕ → ℕ → Swept → Type 0
IsSized c tasks pages s = (s.task < tasks) × (length s.masks.items ≡ task_words c pages s.task)

-- Nothing is wrong with these items: each is sized, and no task is there twice.
pub record AreSound (c : Cut) (tasks pages : ℕ) (items : List Swept) : Type 0 where
  pub sized : All (IsSized c tasks pages) items
  pub once : (k : ℕ) → times k items ≤ 1

-- The item's words stand in these masks where its task's pages are.
abbrev pub IsPlaced : Cut → List ℕ → Swept → Type 0
IsPlaced c masks s = (w : ℕ) → w < length s.masks.items
    → slice_index masks (page_words * first_page c s.task + w) ≡ slice_index s.masks.items w

-- The masks of all pages, each task's in its place, from a list that has each task once.
pub record AreGathered (c : Cut) (tasks pages : ℕ) (items : List Swept) (masks : List ℕ) : Type 0 where
  pub sound : AreSound c tasks pages items
  pub all : (k : ℕ) → k < tasks → times k items ≡ 1
  pub count : length masks ≡ page_words * pages
  pub placed : All (IsPlaced c masks) items

-- Item s stands in the list at a place before which nothing is wrong. `before` is what stands there.
pub record IsFirstOf (c : Cut) (tasks pages : ℕ) (items before : List Swept) (s : Swept) : Type 0 where
  pub place : ℕ
  pub here : slice_get items place ≡ Some s
  pub before_it : before ≡ take place items
  pub sound : AreSound c tasks pages before

-- What is wrong with a list. The items are judged in order, each as a stranger first, then as a double,
-- then by its size. Where nothing is wrong with them, the least task that is missing is told.
abbrev pub IsFaultOf : Cut → ℕ → ℕ → List Swept → GatherFault → Type 0
IsFaultOf c tasks pages items Memory = Unit {0}
IsFaultOf c tasks pages items (Stranger k) = (before : List Swept) × (s : Swept) × IsFirstOf c tasks pages items before s
    × (s.task ≡ k) × (tasks ≤ k)
IsFaultOf c tasks pages items (Double k) = (before : List Swept) × (s : Swept) × IsFirstOf c tasks pages items before s
    × (s.task ≡ k) × (k < tasks) × (times k before ≡ 1)
IsFaultOf c tasks pages items (WrongSize k) = (before : List Swept) × (s : Swept) × IsFirstOf c tasks pages items before s
    × (s.task ≡ k) × (k < tasks) × (times k before ≡ 0) × (length s.masks.items ≢ task_words c pages k)
IsFaultOf c tasks pages items (Missing k) = AreSound c tasks pages items
    × (k < tasks) × (times k items ≡ 0) × ((j : ℕ) → j < k → times j items ≡ 1)

-- The same of one item, where `done` says of each task whether an item before has it.
abbrev pub IsNewItem : Cut → ℕ → List Bool → Swept → Type 0
IsNewItem c pages done s = (s.task < length done) × (slice_index_or done s.task false ≡ false)
    × (length s.masks.items ≡ task_words c pages s.task)

abbrev pub IsFaultAt : Cut → ℕ → List Bool → Swept → GatherFault → Type 0
IsFaultAt c pages done s Memory = ⊥
IsFaultAt c pages done s (Stranger k) = (s.task ≡ k) × (length done ≤ k)
IsFaultAt c pages done s (Double k) = (s.task ≡ k) × (k < length done) × (slice_index_or done k false ≡ true)
IsFaultAt c pages done s (WrongSize k) = (s.task ≡ k) × (k < length done) × (slice_index_or done k false ≡ false)
    × (length s.masks.items ≢ task_words c pages k)
IsFaultAt c pages done s (Missing k) = ⊥

-- What holds of the items that were judged, all of them placed.
pub record IsGathered (c : Cut) (tasks pages : ℕ) (items : List Swept) (done : List Bool) (masks : List ℕ) : Type 0 where
  pub sound : AreSound c tasks pages items
  pub counted : (k : ℕ) → k < tasks → times k items ≡ cond (slice_index_or done k false) 1 0
  pub placed : All (IsPlaced c masks) items
