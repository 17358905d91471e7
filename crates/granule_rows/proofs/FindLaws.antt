-- What the nodes of a tree say of the row, and what follows for the first run.
use Rattle.std.proofs.Common.{◌≡◌, ◌<◌, ◌≤◌, ◌+◌, ◌-◌, ◌*◌, ◌^◌, ℕ, zero, suc, Bool, true, false, inl, inr, List, length, get_or, sym, ap, ◌∙◌, subst, arith}
use Rattle.std.proofs.lemmas.Bool.{cases_lt}
use Rattle.std.proofs.lemmas.Nat.{pow_pos}
use Rattle.std.proofs.Math.Nat.{mul-le-mul_right}
use Rattle.granule_rows.proofs.JoinLaws.{IsSummary-joined, run_from_start, run_part, run_to_end}
use Rattle.granule_rows.specs.Runs.{AreSet, HasRun, IsFirst}
use Rattle.granule_rows.specs.Summaries.{IsSummary, joined_of}
use Rattle.granule_rows.specs.Tree.{IsLeaf, IsNode, IsTree, node}
use Rattle.granule_rows.specs.declared.summary.Summary.{Summary}
use Rattle.tag_memory.specs.Laws.{is_set_for-at}
use Rattle.tag_memory.specs.Tags.{is_set, is_set_for}

-- ---- runs elsewhere

-- The bits from `a` on are those of others from 0 on.
pub IsSummary-moved : {from to : ℕ → Bool} {s : Summary} (a : ℕ) → ((j : ℕ) → j < s.length → to (a + j) ≡ from j) → IsSummary from 0 s → IsSummary to a s
IsSummary-moved {from = from} {to = to} {s = s} a same summary =
    let at : (k : ℕ) (b : Bool) → a ≤ k → k < a + s.length → from (k - a) ≡ b → to k ≡ b =
    λ k b le lt is. (let e : a + (k - a) ≡ k = omega arith in subst (λ (i : ℕ). to i ≡ b) e (same (k - a) (omega arith) ∙ is)) in
    let back : (k : ℕ) → k < s.length → to (a + k) ≡ true → from k ≡ true = λ k lt is. sym (same k lt) ∙ is in
    record {
      prefix_within = summary.prefix_within;
      prefix_set = λ k le lt. at k true le (omega (arith, summary.prefix_within)) (summary.prefix_set (k - a) (omega arith) (omega arith));
      prefix_ends = λ lt. at (a + s.prefix) false (omega arith) (omega arith)
          (let e : 0 + s.prefix ≡ a + s.prefix - a = omega arith in subst (λ (i : ℕ). from i ≡ false) e (summary.prefix_ends lt));
      suffix_within = summary.suffix_within;
      suffix_set = λ k le lt. at k true (omega (arith, summary.suffix_within)) lt (summary.suffix_set (k - a) (omega (arith, summary.suffix_within)) (omega (arith, summary.suffix_within)));
      suffix_ends = λ k le e. at k false le (omega arith) (summary.suffix_ends (k - a) (omega arith) (omega arith));
      longest_at = a + summary.longest_at;
      longest_from = omega arith;
      longest_end = omega (arith, summary.longest_end);
      longest_set = λ k le lt. at k true (omega arith) (omega (arith, summary.longest_end)) (summary.longest_set (k - a) (omega arith) (omega arith));
      longest_most = λ q n le to_end run. summary.longest_most (q - a) n (omega arith) (omega arith)
          (record { each = λ k k_le k_lt. back k (omega arith) (run.each (a + k) (omega arith) (omega arith)) });
    }

-- ---- a node and what it says

-- What a node of this height says of the bits from `first` on.
pub record IsNodeSummary (words : List ℕ) (nodes : List Summary) (h i first : ℕ) : Type 0 where
  pub length : (node nodes i).length ≡ 64 * 2 ^ h
  pub summary : IsSummary (is_set_for words) first (node nodes i)

-- What the children of a node say.
pub record AreChildren (words : List ℕ) (nodes : List Summary) (i first : ℕ) : Type 0 where
  pub left_node : IsNode (length words) (2 * i) first
  pub right_node : IsNode (length words) (2 * i + 1) (first + (node nodes (2 * i)).length)
  pub left : IsSummary (is_set_for words) first (node nodes (2 * i))
  pub right : IsSummary (is_set_for words) (first + (node nodes (2 * i)).length) (node nodes (2 * i + 1))
  pub sum : node nodes i ≡ joined_of (node nodes (2 * i)) (node nodes (2 * i + 1))
  pub within : first + (node nodes (2 * i)).length + (node nodes (2 * i + 1)).length ≤ 64 * length words

-- A node above the leaves.
pub inner_node : (leaves h i first : ℕ) → i * (64 * 2 ^ suc h) ≡ 64 * leaves + first → first + 64 * 2 ^ suc h ≤ 64 * leaves → (0 < i) × (i < leaves)
inner_node leaves h i first place within =
    let some : 0 < 2 ^ suc h = pow_pos (suc h) in
    let twice : 2 ^ suc h ≡ 2 * 2 ^ h = omega arith in
    let half : 0 < 2 ^ h = pow_pos h in (
      elim (cases_lt 0 i) [
        | inl above ↦ above
        | inr none ↦
            let le : i * (64 * 2 ^ suc h) ≤ 0 * (64 * 2 ^ suc h) = mul-le-mul_right (64 * 2 ^ suc h) none in
            absurd (omega arith)
      ],
      elim (cases_lt i leaves) [
        | inl before ↦ before
        | inr past ↦
            let le : leaves * (64 * 2 ^ suc h) ≤ i * (64 * 2 ^ suc h) = mul-le-mul_right (64 * 2 ^ suc h) past in
            let two : 128 * leaves ≤ (64 * 2 ^ suc h) * leaves = mul-le-mul_right leaves (omega arith) in
            absurd (omega arith)
      ],
    )

module _ (words : List ℕ) (nodes : List Summary) (tree : IsTree words nodes) where
  at_leaf : (w : ℕ) → w < length words → IsNodeSummary words nodes 0 (length words + w) (64 * w)
  at_leaf w lt =
      let leaf = tree.leaves w lt in
      record {
        length = leaf.length;
        summary = IsSummary-moved (64 * w) (λ j j_lt. is_set_for-at words w j (subst (λ (n : ℕ). j < n) leaf.length j_lt)) leaf.summary;
      }

  pub node_summary : (h i first : ℕ) → i * (64 * 2 ^ h) ≡ 64 * length words + first → first + 64 * 2 ^ h ≤ 64 * length words → IsNodeSummary words nodes h i first
  node_summary zero i first place within =
      let first_is : 64 * (i - length words) ≡ first = omega arith in
      let i_is : length words + (i - length words) ≡ i = omega arith in
      subst (λ (a : ℕ). IsNodeSummary words nodes 0 i a) first_is
      (subst (λ (k : ℕ). IsNodeSummary words nodes 0 k (64 * (i - length words))) i_is (at_leaf (i - length words) (omega arith)))
  node_summary (suc h) i first place within =
      let inside = inner_node (length words) h i first place within in
      let twice : 2 ^ suc h ≡ 2 * 2 ^ h = omega arith in
      let product : i * (64 * 2 ^ suc h) ≡ i * (64 * (2 * 2 ^ h)) = ap (λ (x : ℕ). i * (64 * x)) twice in
      let left = node_summary h (2 * i) first (omega arith) (omega arith) in
      let right = node_summary h (2 * i + 1) (first + 64 * 2 ^ h) (omega arith) (omega arith) in
      let sum = tree.summed.sums i inside.0 inside.1 (λ le. omega arith) (λ le. omega arith) in
      let right_there = subst (λ (n : ℕ). IsSummary (is_set_for words) (first + n) (node nodes (2 * i + 1))) (sym left.length) right.summary in
      record {
        length = ap (λ (s : Summary). s.length) sum ∙ omega (arith, left.length, right.length);
        summary = subst (IsSummary (is_set_for words) first) (sym sum) (IsSummary-joined (is_set_for words) first _ _ left.summary right_there);
      }

  pub some_leaves : 0 < length words
  some_leaves = rw tree.power (pow_pos tree.height)

  pub IsNode-some : {i first : ℕ} → IsNode (length words) i first → 0 < i
  IsNode-some {i = i} at = elim (cases_lt 0 i) [
    | inl above ↦ above
    | inr none ↦
        let le : i * (64 * 2 ^ at.height) ≤ 0 * (64 * 2 ^ at.height) = mul-le-mul_right (64 * 2 ^ at.height) none in
        absurd (omega (arith, at.place, some_leaves))
  ]

  pub IsNode-summary : {i first : ℕ} → IsNode (length words) i first → IsSummary (is_set_for words) first (node nodes i)
  IsNode-summary {i = i} {first = first} at = (node_summary at.height i first at.place at.within).summary

  pub IsNode-length : {i first : ℕ} (at : IsNode (length words) i first) → (node nodes i).length ≡ 64 * 2 ^ at.height
  IsNode-length {i = i} {first = first} at = (node_summary at.height i first at.place at.within).length

  pub IsNode-within : {i first : ℕ} → IsNode (length words) i first → first + (node nodes i).length ≤ 64 * length words
  IsNode-within {i = i} {first = first} at = omega (arith, (node_summary at.height i first at.place at.within).length, at.within)

  children_at : (h i first : ℕ) → i * (64 * 2 ^ h) ≡ 64 * length words + first → first + 64 * 2 ^ h ≤ 64 * length words → i < length words → AreChildren words nodes i first
  children_at zero i first place within lt = absurd (omega arith)
  children_at (suc h) i first place within lt =
      let inside = inner_node (length words) h i first place within in
      let twice : 2 ^ suc h ≡ 2 * 2 ^ h = omega arith in
      let product : i * (64 * 2 ^ suc h) ≡ i * (64 * (2 * 2 ^ h)) = ap (λ (x : ℕ). i * (64 * x)) twice in
      let left = node_summary h (2 * i) first (omega arith) (omega arith) in
      let right = node_summary h (2 * i + 1) (first + 64 * 2 ^ h) (omega arith) (omega arith) in
      let right_node : IsNode (length words) (2 * i + 1) (first + 64 * 2 ^ h) = record { height = h; place = omega arith; within = omega arith } in
      record {
        left_node = record { height = h; place = omega arith; within = omega arith };
        right_node = subst (λ (n : ℕ). IsNode (length words) (2 * i + 1) (first + n)) (sym left.length) right_node;
        left = left.summary;
        right = subst (λ (n : ℕ). IsSummary (is_set_for words) (first + n) (node nodes (2 * i + 1))) (sym left.length) right.summary;
        sum = tree.summed.sums i inside.0 inside.1 (λ le. omega arith) (λ le. omega arith);
        within = omega (arith, left.length, right.length);
      }

  pub children : {i first : ℕ} → IsNode (length words) i first → i < length words → AreChildren words nodes i first
  children {i = i} {first = first} at lt = children_at at.height i first at.place at.within lt

  leaf_at : (h i first : ℕ) → i * (64 * 2 ^ h) ≡ 64 * length words + first → first + 64 * 2 ^ h ≤ 64 * length words → length words ≤ i
      → (first ≡ 64 * (i - length words)) × (i - length words < length words) × (i < 2 * length words)
  leaf_at zero i first place within past = (omega arith, omega arith, omega arith)
  leaf_at (suc h) i first place within past = absurd (omega (arith, inner_node (length words) h i first place within))

  -- A node that is a leaf.
  pub leaf_place : {i first : ℕ} → IsNode (length words) i first → length words ≤ i
      → (first ≡ 64 * (i - length words)) × (i - length words < length words) × (i < 2 * length words)
  leaf_place {i = i} {first = first} at past = leaf_at at.height i first at.place at.within past

  pub leaf_word : {i first : ℕ} → IsNode (length words) i first → length words ≤ i → IsLeaf (get_or words (i - length words) 0) (node nodes i)
  leaf_word {i = i} at past =
      let e : length words + (i - length words) ≡ i = omega arith in
      subst (λ (k : ℕ). IsLeaf (get_or words (i - length words) 0) (node nodes k)) e (tree.leaves (i - length words) (leaf_place at past).1)

  abbrev pub IsNode-root : IsNode (length words) 1 0
  IsNode-root = record { height = tree.height; place = omega (arith, tree.power); within = omega (arith, tree.power) }

-- ---- the first run, in two parts

pub longest_within : {bits : ℕ → Bool} {first : ℕ} {s : Summary} → IsSummary bits first s → s.longest ≤ s.length
longest_within summary = omega (arith, summary.longest_from, summary.longest_end)

module _ (bits : ℕ → Bool) (a n : ℕ) (l r : Summary) (left : IsSummary bits a l) (right : IsSummary bits (a + l.length) r) (none : l.longest < n) where
  -- A run that does not lie in the first part ends behind it.
  ends_behind : (q : ℕ) → a ≤ q → AreSet bits q n → a + l.length < q + n
  ends_behind q from run = elim (cases_lt (a + l.length) (q + n)) [
    | inl behind ↦ behind
    | inr within ↦ absurd (omega (arith, left.longest_most q n from within run))
  ]

  pub across : n ≤ l.suffix + r.prefix → IsFirst bits a n (a + l.length - l.suffix)
  across enough = record {
    run = record {
      each = λ k le lt. elim (cases_lt k (a + l.length)) [
        | inl before ↦ left.suffix_set k (omega arith) before
        | inr behind ↦ right.prefix_set k behind (omega (arith, left.suffix_within))
      ];
    };
    after = omega (arith, left.suffix_within);
    least = λ q from run. omega (arith, run_to_end left q n run from (omega (arith, ends_behind q from run)));
  }

  pub beyond : l.suffix + r.prefix < n → n ≤ r.longest → (q : ℕ) → a ≤ q → AreSet bits q n → a + l.length ≤ q
  beyond few enough q from run = elim (cases_lt q (a + l.length)) [
    | inr behind ↦ behind
    | inl before ↦
        let past = ends_behind q from run in
        let low = run_to_end left q n run from (omega (arith, past)) in
        let fits = longest_within right in
        elim (cases_lt (a + l.length + r.length) (q + n)) [
          | inr inside ↦ absurd (omega (arith, low, run_from_start right q n run (omega arith) inside))
          | inl outside ↦
              let part : AreSet bits q (a + l.length + r.length - q) = run_part q n q (a + l.length + r.length - q) run (omega arith) (omega arith) in
              absurd (omega (arith, fits, run_from_start right q (a + l.length + r.length - q) part (omega arith) (omega arith)))
        ]
  ]

-- Where no run starts before `start`, the first one from there is the first one.
pub IsFirst-from : {bits : ℕ → Bool} {first start n p : ℕ} → first ≤ start → ((q : ℕ) → first ≤ q → AreSet bits q n → start ≤ q)
    → IsFirst bits start n p → IsFirst bits first n p
IsFirst-from le before found = record {
  run = found.run;
  after = omega (arith, found.after);
  least = λ q from run. found.least q (before q from run) run;
}

-- The first run of a word is the first one from that word on.
pub IsFirst-word : (words : List ℕ) (w n p : ℕ) → 0 < n → p + n ≤ 64 → IsFirst (is_set (get_or words w 0)) 0 n p
    → IsFirst (is_set_for words) (64 * w) n (64 * w + p)
IsFirst-word words w n p some fits found = record {
  run = record {
    each = λ k le lt.
        (let e : 64 * w + (k - 64 * w) ≡ k = omega arith in
        subst (λ (i : ℕ). is_set_for words i ≡ true) e (is_set_for-at words w (k - 64 * w) (omega arith) ∙ found.run.each (k - 64 * w) (omega arith) (omega arith)));
  };
  after = omega arith;
  least = λ q from run. elim (cases_lt q (64 * w + p)) [
    | inr behind ↦ behind
    | inl before ↦
        let part : AreSet (is_set (get_or words w 0)) (q - 64 * w) n = record {
          each = λ k le lt.
              sym (is_set_for-at words w k (omega arith)) ∙ run.each (64 * w + k) (omega arith) (omega arith);
        } in
        absurd (omega (arith, found.least (q - 64 * w) (omega arith) part))
  ];
}

-- A leaf's longest run is one of its word.
pub HasRun-leaf : {word : ℕ} {s : Summary} {n : ℕ} → IsLeaf word s → n ≤ s.longest → HasRun (is_set word) n
HasRun-leaf leaf enough = record { at = leaf.summary.longest_at; run = record { each = λ k le lt. leaf.summary.longest_set k le (omega arith) } }
