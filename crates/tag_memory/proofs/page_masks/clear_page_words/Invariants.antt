use Rattle.std.proofs.Common.{◌≡◌, ◌<◌, ◌≤◌, ◌*◌, ◌%◌, ℕ, bit_and, length, slice_index}
use Rattle.std.specs.Int.{bit_not, w64}
use Rattle.tag_memory.proofs.page_masks.clear_page_words.Given as goal

abbrev pub invariant-loop-w : goal.invariant-loop-w
invariant-loop-w l =
    record {
      count : length l.tags.items ≡ length l.initial.tags.items;
      done : (k : ℕ) → 4 * l.page ≤ k → k < l.w → slice_index l.tags.items k ≡ bit_and (slice_index l.initial.tags.items k) (bit_not w64 (slice_index l.masks (k % 4)));
      before : (k : ℕ) → k < 4 * l.page → slice_index l.tags.items k ≡ slice_index l.initial.tags.items k;
      rest : (k : ℕ) → l.w ≤ k → slice_index l.tags.items k ≡ slice_index l.initial.tags.items k;
    }
