use Rattle.std.proofs.Common.{◌≡◌, ◌<◌, ◌+◌, ◌*◌, ◌/◌, ℕ, length}
use Rattle.heap_model.specs.Heap.{due}
use Rattle.sweep_masks.specs.Masks.{takes_tag_at}
use Rattle.tag_memory.specs.Tags.{is_set_for}
use Rattle.machine_storage.proofs.storage.Storage.page_masks.Given as goal

abbrev pub invariant-loop-w : goal.invariant-loop-w
invariant-loop-w l = record {
  count : length l.masks ≡ 4;
  made : (j : ℕ) → j / 64 < l.w → is_set_for l.masks j ≡ takes_tag_at l.self.memory (due l.self.heap) (256 * l.page + j);
}
