-- A whole row.
use Rattle.std.proofs.Common.{◌≡◌, ◌<◌, ◌≤◌, ◌+◌, ◌-◌, ◌*◌, ◌/◌, ◌%◌, ◌^◌, ℕ, false, inl, inr, List, Option, None, Some, MatchOption, length, get_or, replicate, refl, sym, ap, ◌∙◌, subst, arith}
use Rattle.std.proofs.lemmas.Bool.{both_ways, cases_eq, cases_lt}
use Rattle.std.proofs.lemmas.List.{get_or_past, get_or-replicate, length-replicate}
use Rattle.std.proofs.lemmas.Nat.{pow_below}
use Rattle.granule_rows.proofs.FindLaws.{IsNode-length, IsNode-root, IsNode-summary}
use Rattle.granule_rows.specs.Runs.{AreSet, IsFirst, IsFirstRun, IsRun}
use Rattle.granule_rows.specs.Tree.{AreSummed, IsLeaf, IsSane, IsTree, no_summary, node}
use Rattle.granule_rows.specs.declared.summary.Summary.{Summary}
use Rattle.tag_memory.specs.Laws.{is_set_zero}
use Rattle.tag_memory.specs.Tags.{is_set, is_set_for}

-- ---- powers of two

-- The least from a number on is within the limit where the number is.
pub power_limit : (n e : ℕ) → n ≡ 2 ^ e → n / 2 < 2 ^ 24 → n ≤ 2 ^ 24
power_limit n e is half = elim (cases_lt e 25) [
  | inl below ↦ elim (cases_eq e 24) [
    | inl same ↦ omega (arith, is, ap (λ (k : ℕ). 2 ^ k) same)
    | inr other ↦ omega (arith, is, pow_below e 24 (omega arith))
  ]
  | inr above ↦ elim (cases_eq e 25) [
    | inl same ↦ absurd (omega (arith, is, ap (λ (k : ℕ). 2 ^ k) same))
    | inr other ↦ absurd (omega (arith, is, pow_below 25 e (omega arith)))
  ]
]

-- ---- an empty row

pub clear_words : (words : List ℕ) (n k : ℕ) → words ≡ replicate n 0 → is_set_for words k ≡ false
clear_words words n k e = elim (cases_lt (k / 64) n) [
  | inl lt ↦ rw (e, get_or-replicate {A = ℕ} n (k / 64) 0 0 lt) (is_set_zero (k % 64))
  | inr past ↦ rw (e, get_or_past (replicate {A = ℕ} n 0) (k / 64) 0 (omega (arith, length-replicate {A = ℕ} n 0))) (is_set_zero (k % 64))
]

node-clear : (n i : ℕ) → node (replicate n no_summary) i ≡ no_summary
node-clear n i = elim (cases_lt i n) [
  | inl lt ↦ get_or-replicate n i no_summary no_summary lt
  | inr past ↦ get_or_past (replicate n no_summary) i no_summary (omega (arith, length-replicate {A = Summary} n no_summary))
]

pub AreSummed-clear : (leaves n : ℕ) (nodes : List Summary) → n ≡ 2 * leaves → nodes ≡ replicate n no_summary → AreSummed leaves nodes 0 0 0 0
AreSummed-clear leaves n nodes double e = record {
  count = ap length e ∙ (length-replicate {A = Summary} n no_summary ∙ double);
  sane = λ i lt. subst (IsSane leaves i) (sym (ap (λ (xs : List Summary). node xs i) e ∙ node-clear n i)) (record { prefix = omega arith; suffix = omega arith; length = omega arith });
  sums = λ i some lt one two. rw (e, node-clear n i, node-clear n (2 * i), node-clear n (2 * i + 1)) refl;
}

-- ---- the first run

-- Granules past the row are not free.
pub set_inside : (words : List ℕ) (p n : ℕ) → 0 < n → AreSet (is_set_for words) p n → p + n ≤ 64 * length words
set_inside words p n some run = elim (cases_lt (64 * length words) (p + n)) [
  | inr inside ↦ inside
  | inl past ↦
      let out : get_or words ((p + n - 1) / 64) 0 ≡ 0 = get_or_past words ((p + n - 1) / 64) 0 (omega arith) in
      absurd (both_ways _ (ap (λ (word : ℕ). is_set word ((p + n - 1) % 64)) out ∙ is_set_zero ((p + n - 1) % 64)) (run.each (p + n - 1) (omega arith) (omega arith)))
]

-- Where the root's longest run is too short there is none.
pub no_run : (words : List ℕ) (nodes : List Summary) → IsTree words nodes → (n : ℕ) → (node nodes 1).longest < n → (p : ℕ) → IsRun words p n → ⊥
no_run words nodes tree n short p run =
    let root = IsNode-summary words nodes tree (IsNode-root words nodes tree) in
    let whole = IsNode-length words nodes tree (IsNode-root words nodes tree) in
    absurd (omega (arith, root.longest_most p n (omega arith) (omega (arith, run.end, whole, tree.power)) run.free))

pub IsFirstRun-from : {words : List ℕ} {from n p : ℕ} → 0 < n → IsFirst (is_set_for words) from n p → IsFirstRun words from n p
IsFirstRun-from {words = words} {n = n} {p = p} some first = record {
  run = record { some = some; end = set_inside words p n some first.run; free = first.run };
  after = first.after;
  least = λ q le run. first.least q le run.free;
}

-- What a search finds, said of granules.
pub next_from : (words : List ℕ) (from n : ℕ) (found : Option ℕ) → 0 < n
    → MatchOption found ((q : ℕ) → from ≤ q → ¬ AreSet (is_set_for words) q n) (IsFirst (is_set_for words) from n)
    → MatchOption found ((p : ℕ) → from ≤ p → ¬ IsRun words p n) (IsFirstRun words from n)
next_from words from n None some none = λ p le run. none p le run.free
next_from words from n (Some p) some first = IsFirstRun-from some first

-- ---- a row written

-- Words that are as before still have their leaves.
pub leaves_kept : (old new : List ℕ) (nodes : List Summary) (first end : ℕ) → IsTree old nodes → length new ≡ length old
    → ((w : ℕ) → (first ≤ w → end ≤ w) → get_or new w 0 ≡ get_or old w 0)
    → (w : ℕ) → w < length new → (first ≤ w → end ≤ w) → IsLeaf (get_or new w 0) (node nodes (length new + w))
leaves_kept old new nodes first end tree same kept w lt out =
    subst (λ (word : ℕ). IsLeaf word (node nodes (length new + w))) (sym (kept w out))
    (subst (λ (k : ℕ). IsLeaf (get_or old w 0) (node nodes (k + w))) (sym same) (tree.leaves w (omega arith)))

pub IsTree-renewed : {old new : List ℕ} {nodes renewed : List Summary} → IsTree old nodes → length new ≡ length old → AreSummed (length new) renewed 0 0 0 0
    → ((w : ℕ) → w < length new → IsLeaf (get_or new w 0) (node renewed (length new + w))) → IsTree new renewed
IsTree-renewed tree same summed leaves = record {
  height = tree.height;
  power = same ∙ tree.power;
  limit = omega (arith, tree.limit);
  summed = summed;
  leaves = leaves;
}

pub IsTree-new : (words : List ℕ) (nodes : List Summary) (n e : ℕ) → n ≡ 2 ^ e → n ≤ 2 ^ 24 → length words ≡ n → AreSummed (length words) nodes 0 0 0 0
    → ((w : ℕ) → w < length words → IsLeaf (get_or words w 0) (node nodes (length words + w))) → IsTree words nodes
IsTree-new words nodes n e power limit long summed leaves = record {
  height = e;
  power = long ∙ power;
  limit = omega arith;
  summed = summed;
  leaves = leaves;
}
