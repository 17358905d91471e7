-- Rows of bits over the granules of a heap. Bit j of word w belongs to granule 64 * w + j.
use Rattle.std.specs.Prelude.{◌≡◌, ◌<◌, ◌≤◌, ◌*◌, ◌/◌, ◌^◌, ◌&&◌, ◌||◌, not, ℕ, true, false, length}
use Rattle.heap_core.specs.declared.rows.Rows.{Rows}
use Rattle.tag_memory.specs.Tags.{is_set_for}

-- How many granules the rows are over.
abbrev pub row_granules : Rows → ℕ
row_granules r = 64 * length r.starts.items

-- The rows are over the same granules, which are whole pages. Each page that has a due granule is marked.
pub record AreRows (r : Rows) : Type 0 where
  pub pages : ℕ
  pub whole : row_granules r ≡ 256 * pages
  pub limit : row_granules r ≤ 2 ^ 18
  pub free : row_granules r ≤ 64 * length r.free
  pub due : length r.due.items ≡ length r.starts.items
  pub due_pages : pages ≤ 64 * length r.due_pages.items
  pub due_pages_limit : length r.due_pages.items ≤ 2 ^ 24
  pub inside : (page : ℕ) → is_set_for r.due_pages.items page ≡ true → page < pages
  pub marked : (k : ℕ) → is_set_for r.due_pages.items (k / 256) ≡ false → is_set_for r.due.items k ≡ false

-- The granules that are no longer due have become free, and no block starts there.
pub record AreGiven (old new : Rows) : Type 0 where
  pub count : row_granules new ≡ row_granules old
  pub marks : length new.due_pages.items ≡ length old.due_pages.items
  pub free : (k : ℕ) → (is_set_for new.free k || is_set_for new.due.items k) ≡ (is_set_for old.free k || is_set_for old.due.items k)
  pub starts : (k : ℕ) → (is_set_for new.starts.items k && not (is_set_for new.due.items k)) ≡ (is_set_for old.starts.items k && not (is_set_for old.due.items k))
  pub due_pages : (page : ℕ) → is_set_for old.due_pages.items page ≡ false → is_set_for new.due_pages.items page ≡ false
