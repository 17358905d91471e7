-- The search for a run from a place on, up the tree.
use Rattle.std.proofs.Common.{◌≡◌, ◌==◌, if◌then◌else◌, ◌<◌, ◌≤◌, ◌+◌, ◌-◌, ◌*◌, ◌/◌, ◌%◌, ◌^◌, ◌&&◌, nat_le, ℕ, zero, suc, Bool, true, false, inl, inr, List, length, get_or, bit_and, refl, sym, ap, ◌∙◌, subst, arith}
use Rattle.std.proofs.lemmas.Bool.{and_parts, cases_lt, le-leb, leb-true, lt-leb}
use Rattle.std.proofs.lemmas.Nat.{pow_pos}
use Rattle.std.proofs.lemmas.Nat.Bits.{bit_at_mask_below, bit_at_mask_inside, ones_shl}
use Rattle.std.proofs.Math.Nat.{mul-le-mul_right}
use Rattle.std.proofs.Math.Bool.{and_comm}
use Rattle.granule_rows.proofs.FindLaws.{across, beyond, node_summary}
use Rattle.granule_rows.proofs.JoinLaws.{IsSummary-joined}
use Rattle.granule_rows.specs.Runs.{AreSet, IsFirst, test_from}
use Rattle.granule_rows.specs.Summaries.{IsSummary, joined_of}
use Rattle.granule_rows.specs.Tree.{IsNode, IsTree, node}
use Rattle.granule_rows.specs.declared.summary.Summary.{Summary}
use Rattle.tag_memory.specs.Laws.{is_set-and, is_set_for-at, same_test}
use Rattle.tag_memory.specs.Tags.{is_set, is_set_for}

-- ---- the way up

-- Node `at` ends at bit `end`, on the level that has 2 ^ level nodes.
pub record IsPath (leaves at end : ℕ) : Type 0 where
  pub height : ℕ
  pub level : ℕ
  pub power : 2 ^ level * 2 ^ height ≡ leaves
  pub low : 2 ^ level ≤ at
  pub high : at < 2 * 2 ^ level
  pub place : (at + 1) * (64 * 2 ^ height) ≡ 64 * leaves + end

pub IsPath-leaf : (leaves height w : ℕ) → leaves ≡ 2 ^ height → w < leaves → IsPath leaves (leaves + w) (64 * w + 64)
IsPath-leaf leaves height w power lt = record {
  height = 0;
  level = height;
  power = omega arith;
  low = omega arith;
  high = omega arith;
  place = omega arith;
}

sibling_within : (leaves level h at end : ℕ) → 2 ^ level * 2 ^ h ≡ leaves → at < 2 * 2 ^ level → (at + 1) * (64 * 2 ^ h) ≡ 64 * leaves + end → 1 < at → at % 2 ≡ 0
    → end + 64 * 2 ^ h ≤ 64 * leaves
sibling_within leaves zero h at end power high place some even = absurd (omega arith)
sibling_within leaves (suc v) h at end power high place some even =
    let twice : 2 ^ suc v ≡ 2 * 2 ^ v = omega arith in
    let room : at + 2 ≤ 2 * 2 ^ suc v = omega arith in
    let le : (at + 2) * (64 * 2 ^ h) ≤ (2 * 2 ^ suc v) * (64 * 2 ^ h) = mul-le-mul_right (64 * 2 ^ h) room in
    omega arith

parent_at : (leaves level h at end n : ℕ) → 2 ^ level * 2 ^ h ≡ leaves → 2 ^ level ≤ at → at < 2 * 2 ^ level → (at + 1) * (64 * 2 ^ h) + n ≡ 64 * leaves + end → 1 < at
    → (n + at % 2 * (64 * 2 ^ h) ≡ 64 * 2 ^ h) → IsPath leaves (at / 2) end
parent_at leaves zero h at end n power low high place some rest = absurd (omega arith)
parent_at leaves (suc v) h at end n power low high place some rest =
    let twice : 2 ^ suc v ≡ 2 * 2 ^ v = omega arith in
    let double : 2 ^ suc h ≡ 2 * 2 ^ h = omega arith in
    let split : at ≡ 2 * (at / 2) + at % 2 = omega arith in
    let product : (at + 1) * (64 * 2 ^ h) ≡ (2 * (at / 2) + at % 2 + 1) * (64 * 2 ^ h) = ap (λ (x : ℕ). (x + 1) * (64 * 2 ^ h)) split in
    let higher : (at / 2 + 1) * (64 * 2 ^ suc h) ≡ (at / 2 + 1) * (64 * (2 * 2 ^ h)) = ap (λ (x : ℕ). (at / 2 + 1) * (64 * x)) double in
    let left : 2 ^ v * 2 ^ suc h ≡ 2 ^ v * (2 * 2 ^ h) = ap (λ (x : ℕ). 2 ^ v * x) double in
    let right : 2 ^ suc v * 2 ^ h ≡ 2 * 2 ^ v * 2 ^ h = ap (λ (x : ℕ). x * 2 ^ h) twice in
    record {
      height = suc h;
      level = v;
      power = omega arith;
      low = omega arith;
      high = omega arith;
      place = omega arith;
    }

module _ (words : List ℕ) (nodes : List Summary) (tree : IsTree words nodes) where
  pub sibling : {at end : ℕ} → IsPath (length words) at end → 1 < at → at % 2 ≡ 0 → IsNode (length words) (at + 1) end
  sibling {at = at} {end = end} path some even = record {
    height = path.height;
    place = path.place;
    within = sibling_within (length words) path.level path.height at end path.power path.high path.place some even;
  }

  sibling_length : {at end : ℕ} (path : IsPath (length words) at end) → 1 < at → at % 2 ≡ 0 → (node nodes (at + 1)).length ≡ 64 * 2 ^ path.height
  sibling_length {at = at} {end = end} path some even =
      (node_summary words nodes tree path.height (at + 1) end path.place
      (sibling_within (length words) path.level path.height at end path.power path.high path.place some even)).length

  pub parent_even : {at end : ℕ} → IsPath (length words) at end → 1 < at → at % 2 ≡ 0 → IsPath (length words) (at / 2) (end + (node nodes (at + 1)).length)
  parent_even {at = at} {end = end} path some even =
      let long = sibling_length path some even in
      parent_at (length words) path.level path.height at (end + (node nodes (at + 1)).length) (node nodes (at + 1)).length path.power path.low path.high
      (omega (arith, path.place)) some (rw even (omega (arith, long)))

  pub parent_odd : {at end : ℕ} → IsPath (length words) at end → 1 < at → at % 2 ≡ 1 → IsPath (length words) (at / 2) end
  parent_odd {at = at} {end = end} path some odd =
      parent_at (length words) path.level path.height at end 0 path.power path.low path.high (omega (arith, path.place)) some (rw odd (omega arith))

root_at : (leaves level h at end : ℕ) → 2 ^ level * 2 ^ h ≡ leaves → 2 ^ level ≤ at → at < 2 * 2 ^ level → (at + 1) * (64 * 2 ^ h) ≡ 64 * leaves + end → at ≤ 1 → end ≡ 64 * leaves
root_at leaves zero h at end power low high place root =
    let one : at ≡ 1 = omega arith in
    let product : (at + 1) * (64 * 2 ^ h) ≡ (1 + 1) * (64 * 2 ^ h) = ap (λ (x : ℕ). (x + 1) * (64 * 2 ^ h)) one in
    omega arith
root_at leaves (suc v) h at end power low high place root =
    let twice : 2 ^ suc v ≡ 2 * 2 ^ v = omega arith in
    let some : 0 < 2 ^ v = pow_pos v in
    absurd (omega arith)

pub path_root : {leaves at end : ℕ} → IsPath leaves at end → at ≤ 1 → end ≡ 64 * leaves
path_root {leaves = leaves} {at = at} {end = end} path root = root_at leaves path.level path.height at end path.power path.low path.high path.place root

-- ---- bits from a place on

pub from_and : (from k : ℕ) (b : Bool) → from ≤ k → (nat_le from k && b) ≡ b
from_and from k b le = rw (le-leb from k le) refl

-- From `from` on they are the bits.
pub IsSummary-from : {bits : ℕ → Bool} {s : Summary} (from first : ℕ) → from ≤ first → IsSummary bits first s → IsSummary (test_from from bits) first s
IsSummary-from {bits = bits} {s = s} from first le summary =
    let at : (k : ℕ) (b : Bool) → first ≤ k → bits k ≡ b → test_from from bits k ≡ b = λ k b k_le is. from_and from k (bits k) (omega arith) ∙ is in
    record {
      prefix_within = summary.prefix_within;
      prefix_set = λ k k_le lt. at k true k_le (summary.prefix_set k k_le lt);
      prefix_ends = λ lt. at (first + s.prefix) false (omega arith) (summary.prefix_ends lt);
      suffix_within = summary.suffix_within;
      suffix_set = λ k k_le lt. at k true (omega (arith, summary.suffix_within)) (summary.suffix_set k k_le lt);
      suffix_ends = λ k k_le e. at k false k_le (summary.suffix_ends k k_le e);
      longest_at = summary.longest_at;
      longest_from = summary.longest_from;
      longest_end = summary.longest_end;
      longest_set = λ k k_le lt. at k true (omega (arith, summary.longest_from)) (summary.longest_set k k_le lt);
      longest_most = λ q n q_le q_end run. summary.longest_most q n q_le q_end
          (record { each = λ k k_le lt. (and_parts _ _ (run.each k k_le lt)).1 });
    }

-- Runs from there on are runs.
pub AreSet-from : {bits : ℕ → Bool} (from q n : ℕ) → from ≤ q → AreSet bits q n → AreSet (test_from from bits) q n
AreSet-from {bits = bits} from q n le run = record { each = λ k k_le lt. from_and from k (bits k) (omega arith) ∙ run.each k k_le lt }

pub IsFirst-back : {bits : ℕ → Bool} (from base n p : ℕ) → 0 < n → base ≤ from → IsFirst (test_from from bits) base n p → IsFirst bits from n p
IsFirst-back from base n p some le found = record {
  run = record { each = λ k k_le lt. (and_parts _ _ (found.run.each k k_le lt)).1 };
  after = leb-true from p (and_parts _ _ (found.run.each p (omega arith) (omega arith))).0;
  least = λ q q_le run. found.least q (omega arith) (AreSet-from from q n q_le run);
}

-- ---- the first word

-- Its bits from `low` on.
pub is_set-high : (word low j : ℕ) → low < 64 → j < 64 → is_set (bit_and word ((2 ^ 64 - 1) * 2 ^ low % 2 ^ 64)) j ≡ (is_set word j && nat_le low j)
is_set-high word low j low_lt lt = rw (ones_shl 64 low (omega arith)) (is_set-and word (2 ^ 64 - 2 ^ low) j ∙ ap (λ (b : Bool). is_set word j && b) (elim (cases_lt j low) [
  | inl below ↦ same_test _ 0 (bit_at_mask_below low 64 j below) ∙ sym (lt-leb low j below)
  | inr inside ↦ same_test _ 1 (bit_at_mask_inside low 64 j inside lt) ∙ sym (le-leb low j inside)
]))

same_order : (from w j : ℕ) → from / 64 ≡ w → nat_le from (64 * w + j) ≡ nat_le (from % 64) j
same_order from w j here = elim (cases_lt j (from % 64)) [
  | inl below ↦ lt-leb from (64 * w + j) (omega arith) ∙ sym (lt-leb (from % 64) j below)
  | inr inside ↦ le-leb from (64 * w + j) (omega arith) ∙ sym (le-leb (from % 64) j inside)
]

pub first_bits : (words : List ℕ) (from w j : ℕ) → from / 64 ≡ w → j < 64
    → test_from from (is_set_for words) (64 * w + j) ≡ is_set (bit_and (get_or words w 0) ((2 ^ 64 - 1) * 2 ^ (from % 64) % 2 ^ 64)) j
first_bits words from w j here lt =
    (λ k. same_order from w j here k && is_set_for-at words w j lt k)
    ∙ (and_comm (nat_le (from % 64) j) (is_set (get_or words w 0) j) ∙ sym (is_set-high (get_or words w 0) (from % 64) j (omega arith) lt))

-- The first run of a word, elsewhere.
pub IsFirst-moved : {from to : ℕ → Bool} (a n p : ℕ) → ((j : ℕ) → j < 64 → to (a + j) ≡ from j) → 0 < n → p + n ≤ 64 → IsFirst from 0 n p → IsFirst to a n (a + p)
IsFirst-moved {from = from} {to = to} a n p same some fits found = record {
  run = record {
    each = λ k le lt.
        (let e : a + (k - a) ≡ k = omega arith in
        subst (λ (i : ℕ). to i ≡ true) e (same (k - a) (omega arith) ∙ found.run.each (k - a) (omega arith) (omega arith)));
  };
  after = omega arith;
  least = λ q le run. elim (cases_lt q (a + p)) [
    | inr behind ↦ behind
    | inl before ↦
        let part : AreSet from (q - a) n = record { each = λ k k_le lt. sym (same k (omega arith)) ∙ run.each (a + k) (omega arith) (omega arith) } in
        absurd (omega (arith, found.least (q - a) (omega arith) part))
  ];
}

-- ---- what was passed

-- The bits from `first` on and before `end`, the last of which are so many ones, have no n ones in a row.
pub record IsPassed (bits : ℕ → Bool) (first end ones n : ℕ) : Type 0 where
  pub part : Summary
  pub is : IsSummary bits first part
  pub end_is : first + part.length ≡ end
  pub ones_is : part.suffix ≡ ones
  pub short : part.longest < n

-- The part behind it.
module _ {bits : ℕ → Bool} {first end ones n : ℕ} {r : Summary} (passed : IsPassed bits first end ones n) (right : IsSummary bits end r) where
  behind : IsSummary bits (first + passed.part.length) r
  behind = subst (λ (e : ℕ). IsSummary bits e r) (sym passed.end_is) right

  pub passed_across : n ≤ ones + r.prefix → IsFirst bits first n (end - ones)
  passed_across enough =
      let place : first + passed.part.length - passed.part.suffix ≡ end - ones = omega (arith, passed.end_is, passed.ones_is) in
      subst (IsFirst bits first n) place (across bits first n passed.part r passed.is behind passed.short (omega (arith, passed.ones_is)))

  pub passed_beyond : ones + r.prefix < n → n ≤ r.longest → (q : ℕ) → first ≤ q → AreSet bits q n → end ≤ q
  passed_beyond few enough q from run =
      omega (arith, passed.end_is, beyond bits first n passed.part r passed.is behind passed.short (omega (arith, passed.ones_is)) enough q from run)

  pub passed_more : ones + r.prefix < n → r.longest < n → IsPassed bits first (end + r.length) (if r.suffix == r.length then r.length + ones else r.suffix) n
  passed_more few none = record {
    part = joined_of passed.part r;
    is = IsSummary-joined bits first passed.part r passed.is behind;
    end_is = omega (arith, passed.end_is);
    ones_is = ap (λ (x : ℕ). if r.suffix == r.length then r.length + x else r.suffix) passed.ones_is;
    short = omega (arith, passed.ones_is, passed.short);
  }

pub passed_end : {bits : ℕ → Bool} {first end ones n : ℕ} → IsPassed bits first end ones n → first + ones ≤ end
passed_end passed = omega (arith, passed.end_is, passed.ones_is, passed.is.suffix_within)

pub passed_none : {bits : ℕ → Bool} {first end ones n : ℕ} → IsPassed bits first end ones n → (q : ℕ) → first ≤ q → q + n ≤ end → AreSet bits q n → ⊥
passed_none {n = n} passed q from to run = omega (arith, passed.short, passed.is.longest_most q n from (omega (arith, passed.end_is)) run)
