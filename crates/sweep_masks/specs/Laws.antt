-- What callers of this crate need of tasks, and of masks by a heap's shadow.
use Rattle.std.proofs.Common.{◌≡◌, ◌∙◌, ◌<◌, ◌+◌, ◌-◌, ◌*◌, ◌/◌, ◌^◌, ◌==◌, ◌&&◌, ℕ, Bool, false, true, inl, inr, List, length, get_or, refl, sym, ap, arith}
use Rattle.std.proofs.Math.Decide.{dec_lt}
use Rattle.std.proofs.lemmas.Bool.{cases_lt, le-leb, lt-leb}
use Rattle.std.proofs.lemmas.Bool.Decides.{nat_tests}
use Rattle.std.proofs.lemmas.List.{ext_get_or, get_or_past}
use Rattle.std.proofs.lemmas.Nat.{mul-le}
use Rattle.std.proofs.lemmas.Nat.Bits.{bit_at-lt, same_from_bits_below}
use Rattle.std.specs.Int.{bit_at}
use Rattle.tag_memory.specs.Laws.{is_set_for-at}
use mathlib.Core.Logic.{dite}
use Rattle.cap_codec.specs.Words.{base_of}
use Rattle.heap_model.specs.Blocks.{lies_in}
use Rattle.heap_model.specs.Laws.{lies_in-outside}
use Rattle.heap_model.specs.Heap.{HeapState, IsSound, due}
use Rattle.heap_model.specs.Quarantine.{IsShadow}
use Rattle.heap_model.specs.Sweep.{AreInDirtyPages, takes_tag}
use Rattle.sweep_masks.specs.Masks.{AreBits, AreDirtyMasks, AreMasks, ArePageMasks, IsShadowOf, TakePageTags, TakeTags, is_hit, is_hit_at, is_painted}
use Rattle.sweep_masks.specs.Tasks.{Cut, IsTask, IsTaskCount}
use Rattle.tag_memory.specs.Cells.{Cell, MemoryState, cell_of, is_dirty_at}
use Rattle.tag_memory.specs.Extent.{page_granules, page_words}

-- ---- tasks

-- A number below that of the tasks is one of a task, and no other is.
pub IsTask-below : (c : Cut) (pages n k : ℕ) → IsTaskCount c pages n → k < n → IsTask c pages k
IsTask-below c pages n k count below = dite (dec_lt (k * c.pages_per_task) pages)
    (λ is. is)
    (λ past. let few = count.least k (omega arith) in absurd (omega arith))

pub below_of-IsTask : (c : Cut) (pages n k : ℕ) → IsTaskCount c pages n → IsTask c pages k → k < n
below_of-IsTask c pages n k count is = dite (dec_lt k n)
    (λ below. below)
    (λ past. let whole = count.enough in let more = mul-le n c.pages_per_task k c.pages_per_task (omega arith) (omega arith) in absurd (omega arith))

-- ---- the shadow of a heap

-- An address lies in a block that is due exactly where the shadow of the heap is painted there.
pub is_painted-due : (heap : HeapState) (shadow : List Bool) (a : ℕ) → IsSound heap → IsShadow heap shadow → is_painted shadow heap.base a ≡ lies_in (due heap) a
is_painted-due heap shadow a sound is =
    elim (cases_lt a heap.base) [
      | inl below ↦ rw (lt-leb heap.base a below, lies_in-outside heap a sound (inl below)) refl
      | inr from ↦ elim (cases_lt a (heap.base + heap.size)) [
        | inl before ↦ rw (le-leb heap.base a from) (is.painted a from before)
        | inr above ↦
            let past : get_or shadow ((a - heap.base) / 16) false ≡ false = get_or_past shadow ((a - heap.base) / 16) false (omega (arith, is.granules)) in
            rw (le-leb heap.base a from, past, lies_in-outside heap a sound (inr above)) refl
      ]
    ]

-- What is hit is what the sweep takes.
pub is_hit-takes_tag : (heap : HeapState) (base : ℕ) (shadow : List Bool) (c : Cell) → IsShadowOf heap base shadow → is_hit shadow base c ≡ takes_tag (due heap) c
is_hit-takes_tag heap base shadow c of =
    ap (λ (b : ℕ). is_hit shadow b c) (sym of.start) ∙ ap (λ (b : Bool). c.1 && b) (is_painted-due heap shadow (base_of c.0) of.sound of.painted)

-- Tests that agree have the same masks.
AreBits-same : (f g : ℕ → Bool) (granules : ℕ) (masks : List ℕ) → ((i : ℕ) → f i ≡ g i) → AreBits f granules masks → AreBits g granules masks
AreBits-same f g granules masks same are = record { count = are.count; bits = λ i lt. are.bits i lt ∙ same i }

-- Two bits that pass one test are the same bit.
same_bit : (x y : ℕ) → x < 2 → y < 2 → (x == 1) ≡ (y == 1) → x ≡ y
same_bit x y x_lt y_lt same = grind (arith, nat_tests)

-- A test has one list of masks, so a memory has one for a shadow, whatever the cutting.
pub AreBits-unique : (test : ℕ → Bool) (granules : ℕ) (a b : List ℕ) → ((w : ℕ) → get_or a w 0 < 2 ^ 64) → ((w : ℕ) → get_or b w 0 < 2 ^ 64)
    → AreBits test granules a → AreBits test granules b → a ≡ b
AreBits-unique test granules a b a_fits b_fits p q =
    ext_get_or 0 a b (let m = p.count in let n = q.count in omega arith)
    (λ w lt. same_from_bits_below 64 (get_or a w 0) (get_or b w 0) (a_fits w) (b_fits w)
    (λ j below.
    let inside : 64 * w + j < granules = (let m = p.count in omega arith) in
    same_bit (bit_at (get_or a w 0) j) (bit_at (get_or b w 0) j) (bit_at-lt _ j) (bit_at-lt _ j)
    (sym (is_set_for-at a w j below) ∙ (p.bits (64 * w + j) inside ∙ (sym (q.bits (64 * w + j) inside) ∙ is_set_for-at b w j below)))))

-- The masks of so many pages are four words for each.
pub AreBits-words : (test : ℕ → Bool) (pages : ℕ) (masks : List ℕ) → AreBits test (256 * pages) masks → length masks ≡ page_words * pages
AreBits-words test pages masks are = let n = are.count in omega arith

-- So masks by the shadow are those of the tags that the sweep takes.
pub TakeTags-masks : (heap : HeapState) (m : MemoryState) (shadow : List Bool) (masks : List ℕ) → IsShadowOf heap m.base shadow → AreMasks m shadow masks → TakeTags m (due heap) masks
TakeTags-masks heap m shadow masks of =
    AreBits-same _ _ _ masks (λ i. is_hit-takes_tag heap m.base shadow (cell_of (get_or m.granules i (0, false))) of)

-- And masks of dirty pages alone, where every granule whose tag the sweep takes stands in one.
pub TakeTags-dirty : (heap : HeapState) (m : MemoryState) (shadow : List Bool) (masks : List ℕ) → IsShadowOf heap m.base shadow → AreInDirtyPages m.granules m.dirty (due heap)
    → AreDirtyMasks m shadow masks → TakeTags m (due heap) masks
TakeTags-dirty heap m shadow masks of stand =
    AreBits-same _ _ _ masks (λ i.
    let taken = is_hit-takes_tag heap m.base shadow (cell_of (get_or m.granules i (0, false))) of in
    all_where (is_hit_at m shadow i) (is_dirty_at m.dirty (i / page_granules)) (λ hit. stand i (sym taken ∙ hit)) ∙ taken) where
      all_where : (hit dirty : Bool) → (hit ≡ true → dirty ≡ true) → (hit && dirty) ≡ hit
      all_where true dirty is = is refl
      all_where false dirty is = refl

pub TakePageTags-masks : (heap : HeapState) (m : MemoryState) (shadow : List Bool) (from end : ℕ) (masks : List ℕ) → IsShadowOf heap m.base shadow → ArePageMasks m shadow from end masks → TakePageTags m (due heap) from end masks
TakePageTags-masks heap m shadow from end masks of =
    AreBits-same _ _ _ masks (λ i. is_hit-takes_tag heap m.base shadow (cell_of (get_or m.granules (256 * from + i) (0, false))) of)
