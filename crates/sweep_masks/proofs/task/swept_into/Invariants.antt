use Rattle.std.proofs.Common.{◌≡◌, ◌<◌, ◌/◌, ◌+◌, ◌-◌, ◌*◌, ℕ, length}
use Rattle.sweep_masks.specs.Masks.{is_hit_at}
use Rattle.sweep_masks.specs.Tasks.{page_count, task_words}
use Rattle.tag_memory.specs.Tags.{is_set_for}
use Rattle.sweep_masks.proofs.task.swept_into.Given as goal

abbrev pub invariant-loop-page : goal.invariant-loop-page
invariant-loop-page l = record {
  count : length l.room.items ≡ task_words l.cutting (page_count l.memory) l.task;
  done : (i : ℕ) → i / 256 < l.page - l.first → is_set_for l.room.items i ≡ is_hit_at l.memory l.shadow (256 * l.first + i);
}
