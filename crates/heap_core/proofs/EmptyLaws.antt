-- The table of a heap with no block.
use Rattle.std.proofs.Common.{◌≡◌, ◌+◌, ◌*◌, ◌/◌, ◌%◌, ℕ, zero, suc, Bool, true, false, List, [], length, get_or, replicate, refl, sym, ap, ◌∙◌, arith}
use Rattle.std.proofs.lemmas.Bool.{le-ltb}
use Rattle.std.proofs.lemmas.List.{ext_get_or, length-replicate}
use Rattle.heap_model.specs.Heap.{empty_heap}
use Rattle.heap_core.specs.Consistent.{AreLate, heap_state}
use Rattle.heap_model.specs.Shadow.{bits_of}
use Rattle.heap_core.specs.Table.{IsTable, blocks_of, is_marked, is_unmarked, is_occupied}
use Rattle.heap_core.proofs.LateLaws.{AreLate-none, bits_of-none, either-none_left}
use Rattle.heap_model.specs.ShadowLaws.{length-bits_of}
use Rattle.tag_memory.specs.Laws.{is_set_zero}
use Rattle.tag_memory.specs.Extent.{is_base, is_size}
use Rattle.tag_memory.specs.Tags.{is_set, is_set_for}

abbrev pub zeros : ℕ → List ℕ
zeros n = replicate n 0

pub get_or-zeros : (n k : ℕ) → get_or (zeros n) k 0 ≡ 0
get_or-zeros zero k = refl
get_or-zeros (suc n) zero = refl
get_or-zeros (suc n) (suc k) = get_or-zeros n k

pub is_occupied-zeros : (n k : ℕ) → is_occupied k (zeros n) ≡ false
is_occupied-zeros zero k = refl
is_occupied-zeros (suc n) zero = refl
is_occupied-zeros (suc n) (suc k) = rw (le-ltb (suc k) 0 (omega arith)) (is_occupied-zeros n k)

pub blocks_of-zeros : (keeps : Bool → Bool) (base i n : ℕ) → blocks_of keeps base i (zeros n) (replicate n false) ≡ []
blocks_of-zeros keeps base i zero = refl
blocks_of-zeros keeps base i (suc n) = blocks_of-zeros keeps base (i + 1) n

pub IsTable-zeros : (base n pages : ℕ) → n ≡ 256 * pages → is_size pages ≡ true → is_base base pages ≡ true
    → IsTable base (zeros n) (replicate n false)
IsTable-zeros base n pages count size place =
    let long : length (zeros n) ≡ n = length-replicate n zero in
    record {
      same = length-replicate n false ∙ sym long;
      pages = pages;
      count = long ∙ count;
      size = size;
      place = place;
      inside = λ j lt. omega (arith, get_or-zeros n j);
      apart = λ j k lt block. absurd (omega (arith, get_or-zeros n k));
    }

pub get_or-falses : (n k : ℕ) → get_or (replicate n false) k false ≡ false
get_or-falses zero k = refl
get_or-falses (suc n) zero = refl
get_or-falses (suc n) (suc k) = get_or-falses n k

-- No bit of such a row is 1.
pub is_set-zeros : (words k : ℕ) → is_set_for (zeros words) k ≡ false
is_set-zeros words k = ap (λ (word : ℕ). is_set word (k % 64)) (get_or-zeros words (k / 64)) ∙ is_set_zero (k % 64)

pub bits_of-zeros : (words n : ℕ) → n ≡ 64 * words → bits_of (zeros words) ≡ replicate n false
bits_of-zeros words n whole =
    let long : length (bits_of (zeros words)) ≡ n = length-bits_of (zeros words) ∙ ap (λ (w : ℕ). 64 * w) (length-replicate words zero) ∙ sym whole in
    ext_get_or false (bits_of (zeros words)) (replicate n false) (long ∙ sym (length-replicate n false))
    (λ k lt. bits_of-none (zeros words) (is_set-zeros words) k ∙ sym (get_or-falses n k))

pub heap_state-zeros : (base n pages : ℕ) → n ≡ 256 * pages
    → heap_state base (zeros n) (replicate n false) (replicate n false) false ≡ empty_heap base pages
heap_state-zeros base n pages count =
    let size : 16 * n ≡ 4096 * pages = omega arith in
    rw (length-replicate n zero, size, either-none_left n (replicate n false) (length-replicate n false), blocks_of-zeros is_unmarked base 0 n, blocks_of-zeros is_marked base 0 n) refl

pub AreLate-zeros : (n : ℕ) → AreLate (zeros n) (replicate n false) (replicate n false) false
AreLate-zeros n = AreLate-none (length-replicate n false ∙ sym (length-replicate n zero)) (get_or-falses n)
