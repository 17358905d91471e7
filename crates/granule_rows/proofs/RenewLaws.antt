-- Nodes of the tree written.
use Rattle.std.proofs.Common.{◌≡◌, ◌≢◌, ◌<◌, ◌≤◌, ◌+◌, ◌*◌, ◌/◌, ◌^◌, ℕ, inl, inr, List, length, get_or, set, sym, ap, ◌∙◌, subst, arith}
use Rattle.std.proofs.lemmas.Bool.{cases_eq, eq-eqb, ne_eqb}
use Rattle.std.proofs.lemmas.List.{get_or-set_other, get_or-set_same}
use Rattle.std.proofs.Math.ListN.{length-set}
use Rattle.std.proofs.Math.Nat.{mul-le-mul_right}
use Rattle.granule_rows.specs.Summaries.{joined_of}
use Rattle.granule_rows.specs.Tree.{AreSummed, IsLeaf, IsSane, no_summary, node}
use Rattle.granule_rows.specs.declared.summary.Summary.{Summary}

pub node-same : (nodes : List Summary) (i : ℕ) (s : Summary) → i < length nodes → node (set nodes i s) i ≡ s
node-same nodes i s lt = get_or-set_same nodes i s no_summary lt

pub node-other : (nodes : List Summary) (i j : ℕ) (s : Summary) → j ≢ i → node (set nodes i s) j ≡ node nodes j
node-other nodes i j s other = get_or-set_other nodes i j s no_summary other

-- Fewer nodes are sure.
pub AreSummed-less : {leaves : ℕ} {nodes : List Summary} {a b c d : ℕ} → AreSummed leaves nodes a b c d → (x y z w : ℕ)
    → ((i : ℕ) → 0 < i → i < leaves → (x ≤ i → y ≤ i) → (z ≤ i → w ≤ i) → (a ≤ i → b ≤ i) × (c ≤ i → d ≤ i))
    → AreSummed leaves nodes x y z w
AreSummed-less summed x y z w less = record {
  count = summed.count;
  sane = summed.sane;
  sums = λ i some lt one two. (let h = less i some lt one two in summed.sums i some lt h.0 h.1);
}

-- A node is written, whose parent is one of those that are not sure.
pub AreSummed-set : (leaves : ℕ) (nodes : List Summary) (a b c d i x : ℕ) (s : Summary) → AreSummed leaves nodes a b c d
    → i < 2 * leaves → c ≤ i / 2 → i / 2 < d → IsSane leaves i s
    → (0 < i → i < leaves → s ≡ joined_of (node nodes (2 * i)) (node nodes (2 * i + 1)))
    → ((j : ℕ) → (x ≤ j → b ≤ j) → j ≢ i → (a ≤ j → b ≤ j))
    → AreSummed leaves (set nodes i s) x b c d
AreSummed-set leaves nodes a b c d i x s summed lt from to sane sum narrow =
    let within : i < length nodes = omega (arith, summed.count) in
    record {
      count = length-set nodes i s ∙ summed.count;
      sane = λ j j_lt. elim (cases_eq j i) [
        | inl here ↦ subst (IsSane leaves j) (sym (ap (λ (k : ℕ). node (set nodes i s) k) here ∙ node-same nodes i s within)) (subst (λ (k : ℕ). IsSane leaves k s) (sym here) sane)
        | inr other ↦ subst (IsSane leaves j) (sym (node-other nodes i j s other)) (summed.sane j j_lt)
      ];
      sums = λ j some j_lt one two.
          let parent : j ≢ i / 2 = λ e. absurd (omega (arith, two)) in
          let left : node (set nodes i s) (2 * j) ≡ node nodes (2 * j) = node-other nodes i (2 * j) s (λ e. parent (omega arith)) in
          let right : node (set nodes i s) (2 * j + 1) ≡ node nodes (2 * j + 1) = node-other nodes i (2 * j + 1) s (λ e. parent (omega arith)) in
          rw (left, right) (elim (cases_eq j i) [
            | inl here ↦ ap (λ (k : ℕ). node (set nodes i s) k) here ∙ (node-same nodes i s within ∙ (sum (omega arith) (omega arith) ∙ ap (λ (k : ℕ). joined_of (node nodes (2 * k)) (node nodes (2 * k + 1))) (sym here)))
            | inr other ↦ node-other nodes i j s other ∙ summed.sums j some j_lt (narrow j one other) two
          ]);
    }

-- What a node's children are, they are together.
pub joined_fits : {leaves : ℕ} {l r : Summary} (k : ℕ) → 0 < k → leaves ≤ 2 ^ 24 → IsSane leaves (2 * k) l → IsSane leaves (2 * k + 1) r → l.length + r.length < 2 ^ 32
joined_fits {leaves = leaves} {l = l} {r = r} k some limit left right =
    let a : 1 * l.length ≤ k * l.length = mul-le-mul_right l.length some in
    let b : 1 * r.length ≤ k * r.length = mul-le-mul_right r.length some in
    omega (arith, left.length, right.length)

pub IsSane-joined : (leaves k : ℕ) (l r : Summary) → IsSane leaves (2 * k) l → IsSane leaves (2 * k + 1) r → IsSane leaves k (joined_of l r)
IsSane-joined leaves k l r left right = record {
  prefix = elim (cases_eq l.prefix l.length) [
    | inl whole ↦ rw (eq-eqb l.prefix l.length whole) (omega (arith, right.prefix))
    | inr part ↦ rw (ne_eqb l.prefix l.length part) (omega (arith, left.prefix))
  ];
  suffix = elim (cases_eq r.suffix r.length) [
    | inl whole ↦ rw (eq-eqb r.suffix r.length whole) (omega (arith, left.suffix))
    | inr part ↦ rw (ne_eqb r.suffix r.length part) (omega (arith, right.suffix))
  ];
  length = omega (arith, left.length, right.length);
}

pub IsSane-leaf : (leaves w word : ℕ) (s : Summary) → w < leaves → IsLeaf word s → IsSane leaves (leaves + w) s
IsSane-leaf leaves w word s lt leaf = record {
  prefix = leaf.summary.prefix_within;
  suffix = leaf.summary.suffix_within;
  length = subst (λ (n : ℕ). (leaves + w) * n ≤ 128 * leaves) (sym leaf.length) (omega arith);
}

-- One leaf more is sure.
pub IsLeaf-set : (words : List ℕ) (nodes : List Summary) (w v : ℕ) (s : Summary) → length nodes ≡ 2 * length words → w < length words → v < length words
    → IsLeaf (get_or words w 0) s → (v ≢ w → IsLeaf (get_or words v 0) (node nodes (length words + v)))
    → IsLeaf (get_or words v 0) (node (set nodes (length words + w) s) (length words + v))
IsLeaf-set words nodes w v s count w_lt lt leaf others = elim (cases_eq v w) [
  | inl here ↦
      let same : node (set nodes (length words + w) s) (length words + v) ≡ s =
      ap (λ (k : ℕ). node (set nodes (length words + w) s) (length words + k)) here ∙ node-same nodes (length words + w) s (omega arith) in
      subst (IsLeaf (get_or words v 0)) (sym same) (subst (λ (k : ℕ). IsLeaf (get_or words k 0) s) (sym here) leaf)
  | inr other ↦ subst (IsLeaf (get_or words v 0)) (sym (node-other nodes (length words + w) (length words + v) s (λ e. other (omega arith)))) (others other)
]

-- The one node that was not sure is right.
pub AreSummed-whole : (leaves : ℕ) (nodes : List Summary) (i : ℕ) → AreSummed leaves nodes i (i + 1) 0 0
    → node nodes i ≡ joined_of (node nodes (2 * i)) (node nodes (2 * i + 1)) → AreSummed leaves nodes 0 0 0 0
AreSummed-whole leaves nodes i summed right = record {
  count = summed.count;
  sane = summed.sane;
  sums = λ j some lt one two. elim (cases_eq j i) [
    | inl here ↦ subst (λ (k : ℕ). node nodes k ≡ joined_of (node nodes (2 * k)) (node nodes (2 * k + 1))) (sym here) right
    | inr other ↦ summed.sums j some lt (λ le. omega arith) (λ le. omega arith)
  ];
}
