-- Granules that are gone through by their tags.
use Rattle.std.proofs.Common.{◌≡◌, ◌∙◌, ◌<◌, ◌≤◌, ◌+◌, ◌-◌, ◌*◌, ◌^◌, ◌/◌, ◌%◌, ◌==◌, ℕ, Bool, true, false, Some, get_or, inl, inr, refl, ap, sym, subst, arith}
use Rattle.std.specs.List.{slice_get}
use Rattle.std.proofs.lemmas.Bool.{and_parts, both_ways, cases_lt}
use Rattle.std.proofs.lemmas.Nat.{shr-shr}
use Rattle.std.proofs.lemmas.Nat.Bits.{bit_at_above}
use Rattle.std.proofs.lemmas.Option.{get_or_from_slice_get}
use Rattle.cap_codec.specs.Words.{base_of}
use Rattle.heap_model.specs.Blocks.{lies_in}
use Rattle.heap_model.specs.Heap.{HeapState}
use Rattle.heap_model.specs.Sweep.{takes_tag}
use Rattle.tag_memory.specs.Cells.{Granule, MemoryState, cell_of, is_dirty_at}
use Rattle.tag_memory.specs.Laws.{same_test}
use Rattle.tag_memory.specs.Tags.{is_set, is_tagged}
use Rattle.heap_machine.specs.Making.{HasGuardedAt, StandsDirty}
use Rattle.machine_steps.specs.Safety.{HoldsGuarded}

-- ---- the bits of a word from one on

-- Bit j of a word that is shifted.
pub is_set-shifted : (word first j : ℕ) → is_set (word / 2 ^ first) j ≡ is_set word (first + j)
is_set-shifted word first j = ap (λ x. x % 2 == 1) (shr-shr word first j)

-- The same of a bit that is counted from the word's first.
pub is_set-from : (word first j : ℕ) → first ≤ j → is_set (word / 2 ^ first) (j - first) ≡ is_set word j
is_set-from word first j from =
    let there : first + (j - first) ≡ j = omega (arith, from) in
    is_set-shifted word first (j - first) ∙ ap (is_set word) there

-- A bit that is 1 is one of the word's.
pub is_set-within : (word j : ℕ) → word < 2 ^ 64 → is_set word j ≡ true → j < 64
is_set-within word j fits set = elim (cases_lt j 64) [
  | inl within ↦ within
  | inr past ↦ absurd (both_ways (is_set word j) (same_test _ 0 (bit_at_above word 64 j fits past)) set)
]

-- Where bits of a word are 0, the granules to which they belong are untagged.
pub untagged-in_word : (tagged : ℕ → Bool) (word w first end : ℕ) → ((j : ℕ) → j < 64 → is_set word j ≡ tagged (64 * w + j)) → end ≤ 64
    → ((j : ℕ) → first ≤ j → j < end → is_set word j ≡ false)
    → (k : ℕ) → 64 * w + first ≤ k → k < 64 * w + end → tagged k ≡ false
untagged-in_word tagged word w first end bits short none k from before =
    let j : ℕ = k - 64 * w in
    let there : 64 * w + j ≡ k = omega (arith, from) in
    sym (ap tagged there) ∙ (sym (bits j (omega (arith, from, before, short))) ∙ none j (omega (arith, from)) (omega (arith, from, before)))

-- ---- what holds of each untagged granule holds of all, where it holds of the tagged ones

-- The first tagged one of those from a granule on is found.
module _ (P : ℕ → Type 0) (tagged : ℕ → Bool) (holds : (k : ℕ) → tagged k ≡ false → P k) (from i : ℕ) (done : (k : ℕ) → k < from → P k)
    (none : (k : ℕ) → from ≤ k → k < i → tagged k ≡ false) where
  pub holds-before : (k : ℕ) → k < i → P k
  holds-before k before = elim (cases_lt k from) [
    | inl lt ↦ done k lt
    | inr le ↦ holds k (none k le before)
  ]

  pub holds-through : P i → (next : ℕ) → next ≤ i + 1 → (k : ℕ) → k < next → P k
  holds-through here next through k before = elim (cases_lt k i) [
    | inl lt ↦ holds-before k lt
    | inr le ↦ subst P (omega (arith, le, before, through)) here
  ]

-- ---- untagged granules

pub HasGuardedAt-untagged : (heap : HeapState) (memory : MemoryState) (k : ℕ) → is_tagged memory.granules k ≡ false → HasGuardedAt heap memory k
HasGuardedAt-untagged heap memory k none = record { within = λ e. absurd (both_ways (is_tagged memory.granules k) none e) }

pub StandsDirty-untagged : (heap : HeapState) (memory : MemoryState) (k : ℕ) → is_tagged memory.granules k ≡ false → StandsDirty heap memory k
StandsDirty-untagged heap memory k none takes =
    let cell = cell_of (get_or memory.granules k (0, false)) in
    absurd (both_ways (is_tagged memory.granules k) none (and_parts cell.1 (lies_in heap.painted (base_of cell.0)) takes).0)

-- ---- granules that are read

pub HasGuardedAt-read : (heap : HeapState) (memory : MemoryState) (i : ℕ) (granule : Granule) → slice_get memory.granules i ≡ Some granule
    → HoldsGuarded heap granule → HasGuardedAt heap memory i
HasGuardedAt-read heap memory i granule at = subst (HoldsGuarded heap) (sym (get_or_from_slice_get memory.granules i granule (0, false) at))

pub not_HasGuardedAt-read : (heap : HeapState) (memory : MemoryState) (i : ℕ) (granule : Granule) → slice_get memory.granules i ≡ Some granule
    → (HoldsGuarded heap granule → ⊥) → HasGuardedAt heap memory i → ⊥
not_HasGuardedAt-read heap memory i granule at not_guarded guarded =
    not_guarded (subst (HoldsGuarded heap) (get_or_from_slice_get memory.granules i granule (0, false) at) guarded)

-- ---- tagged ones, with a base in a painted block or elsewhere

pub StandsDirty-elsewhere : (heap : HeapState) (memory : MemoryState) (i : ℕ) (granule : Granule) → slice_get memory.granules i ≡ Some granule
    → lies_in heap.painted (base_of (cell_of granule).0) ≡ false → StandsDirty heap memory i
StandsDirty-elsewhere heap memory i granule at out takes =
    let is : get_or memory.granules i (0, false) ≡ granule = get_or_from_slice_get memory.granules i granule (0, false) at in
    let cell = cell_of granule in
    absurd (both_ways (lies_in heap.painted (base_of cell.0)) out (and_parts cell.1 (lies_in heap.painted (base_of cell.0)) (rw is at takes)).1)

pub not_StandsDirty-painted : (heap : HeapState) (memory : MemoryState) (i page : ℕ) (granule : Granule) → slice_get memory.granules i ≡ Some granule
    → is_tagged memory.granules i ≡ true → lies_in heap.painted (base_of (cell_of granule).0) ≡ true → i / 256 ≡ page → is_dirty_at memory.dirty page ≡ false
    → StandsDirty heap memory i → ⊥
not_StandsDirty-painted heap memory i page granule at tagged painted there clean stands =
    let is : granule ≡ get_or memory.granules i (0, false) = sym (get_or_from_slice_get memory.granules i granule (0, false) at) in
    let takes : takes_tag heap.painted (cell_of (get_or memory.granules i (0, false))) ≡ true = rw (tagged, rw is at painted) refl in
    both_ways (is_dirty_at memory.dirty page) clean (rw there at stands takes)
