use Rattle.std.proofs.Common.{◌≡◌, ◌*◌, length}
use Rattle.std.specs.Prelude.{min}
use Rattle.sweep_masks.specs.Masks.{IsPassedTo}
use Rattle.sweep_masks.specs.Tasks.{page_count}
use Rattle.sweep_masks.proofs.alone.sweep_pages.Given as goal

abbrev pub invariant-loop-task : goal.invariant-loop-task
invariant-loop-task g l = record {
  count : length l.masks.items ≡ 4 * page_count l.memory;
  made : IsPassedTo l.memory l.shadow l.dirty_only (min (l.task * l.cutting.pages_per_task) (page_count l.memory)) l.masks.items;
}
