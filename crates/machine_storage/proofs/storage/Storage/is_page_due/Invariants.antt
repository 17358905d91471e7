use Rattle.std.proofs.Common.{◌≡◌, ◌<◌, ◌≤◌, ◌*◌, ◌/◌, ℕ, false}
use Rattle.heap_model.specs.Heap.{due}
use Rattle.sweep_masks.specs.Masks.{takes_tag_at}
use Rattle.machine_storage.proofs.storage.Storage.is_page_due.Given as goal

abbrev pub invariant-loop-w : goal.invariant-loop-w
invariant-loop-w l = (i : ℕ) → 4 * l.page ≤ i / 64 → i / 64 < l.w → takes_tag_at l.self.memory (due l.self.heap) i ≡ false
