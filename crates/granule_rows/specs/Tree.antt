-- A tree of summaries in one list: node 1 is the root, the children of node i are 2 * i and 2 * i + 1, and
-- the nodes from `leaves` on are those of the words.
use Rattle.std.specs.Prelude.{◌≡◌, ◌<◌, ◌≤◌, ◌+◌, ◌*◌, ◌^◌, ℕ, List, length, slice_index, slice_index_or}
use Rattle.granule_rows.specs.Summaries.{IsSummary, joined_of}
use Rattle.granule_rows.specs.declared.summary.Summary.{Summary}
use Rattle.tag_memory.specs.Tags.{is_set}

abbrev pub no_summary : Summary
no_summary = record { length = 0; prefix = 0; longest = 0; suffix = 0 }

abbrev pub node : List Summary → ℕ → Summary
node nodes i = slice_index_or nodes i no_summary

-- A node's numbers are small enough to be added.
pub record IsSane (leaves i : ℕ) (s : Summary) : Type 0 where
  pub prefix : s.prefix ≤ s.length
  pub suffix : s.suffix ≤ s.length
  pub length : i * s.length ≤ 128 * leaves

-- Each node above the leaves is its children's summaries joined, but for those from a to before b and
-- from c to before d.
pub record AreSummed (leaves : ℕ) (nodes : List Summary) (a b c d : ℕ) : Type 0 where
  pub count : length nodes ≡ 2 * leaves
  pub sane : (i : ℕ) → i < 2 * leaves → IsSane leaves i (node nodes i)
  pub sums : (i : ℕ) → 0 < i → i < leaves → (a ≤ i → b ≤ i) → (c ≤ i → d ≤ i)
      → node nodes i ≡ joined_of (node nodes (2 * i)) (node nodes (2 * i + 1))

-- The summary of one word.
pub record IsLeaf (word : ℕ) (s : Summary) : Type 0 where
  pub length : s.length ≡ 64
  pub summary : IsSummary (is_set word) 0 s

-- The tree over these words, of which there are 2 ^ height.
pub record IsTree (words : List ℕ) (nodes : List Summary) : Type 0 where
  pub height : ℕ
  pub power : length words ≡ 2 ^ height
  pub limit : length words ≤ 2 ^ 24
  pub summed : AreSummed (length words) nodes 0 0 0 0
  pub leaves : (w : ℕ) → w < length words → IsLeaf (slice_index words w) (node nodes (length words + w))

-- Node i is that of the bits from `first` on, 64 * 2 ^ height of them.
pub record IsNode (leaves i first : ℕ) : Type 0 where
  pub height : ℕ
  pub place : i * (64 * 2 ^ height) ≡ 64 * leaves + first
  pub within : first + 64 * 2 ^ height ≤ 64 * leaves
