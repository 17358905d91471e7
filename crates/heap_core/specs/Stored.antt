-- How a table is stored: as rows of bits, and lengths that count only where a block starts.
use Rattle.std.specs.Prelude.{◌≡◌, ◌<◌, ◌&&◌, not, nat_lt, if◌then◌else◌, ℕ, Bool, true, List, length, map, slice_index}
use Rattle.std.specs.List.{range_with_len}
use Rattle.heap_core.specs.Rows.{AreRows, row_granules}
use Rattle.heap_core.specs.Table.{TableState, is_marked, is_occupied, kept_lengths}
use Rattle.heap_core.specs.declared.table.Table.TheInside.{Inside}
use Rattle.tag_memory.specs.Tags.{is_set_for}

-- The length at granule k, or 0 where no block starts.
abbrev pub length_in : List ℕ → List ℕ → ℕ → ℕ
length_in starts lengths k = if is_set_for starts k then slice_index lengths k else 0

-- The lengths at all granules.
unfoldable pub lengths_of : List ℕ → List ℕ → List ℕ
lengths_of starts lengths = map (length_in starts lengths) (range_with_len 0 (length lengths))

-- The marks of n granules: a due block starts there.
unfoldable pub marks_of : List ℕ → List ℕ → ℕ → List Bool
marks_of starts due n = map (λ k. is_set_for starts k && is_set_for due k) (range_with_len 0 n)

-- What is stored.
abbrev pub view_of : Inside → TableState
view_of t = record {
  lengths = lengths_of t.rows.starts.items t.lengths.items;
  marks = marks_of t.rows.starts.items t.rows.due.items (length t.lengths.items);
}

-- The rows tell of each granule whether it lies in no block, and whether in a due one. No block is empty.
pub record AreStored (t : Inside) : Type 0 where
  pub rows : AreRows t.rows
  pub count : length t.lengths.items ≡ row_granules t.rows
  pub some : (k : ℕ) → is_set_for t.rows.starts.items k ≡ true → 0 < slice_index t.lengths.items k
  pub free : (k : ℕ) → is_set_for t.rows.free k ≡ (nat_lt k (length t.lengths.items) && not (is_occupied k (view_of t).lengths))
  pub due : (k : ℕ) → k < length t.lengths.items
      → is_set_for t.rows.due.items k ≡ is_occupied k (kept_lengths is_marked (view_of t).lengths (view_of t).marks)
