use Rattle.std.proofs.Common.{◌≡◌, ◌≢◌, ◌<◌, ◌/◌, ◌+◌, ◌-◌, ◌*◌, ℕ, get_or, length}
use Rattle.sweep_masks.specs.Masks.{is_hit_at}
use Rattle.tag_memory.specs.Tags.{is_set_for}
use Rattle.sweep_masks.proofs.task.fill_page.Given as goal

abbrev pub invariant-loop-j : goal.invariant-loop-j
invariant-loop-j l = record {
  count : length l.masks.items ≡ length l.initial.masks.items;
  made : (i : ℕ) → i / 256 ≡ l.page - l.first → i / 64 < l.at + l.j → is_set_for l.masks.items i ≡ is_hit_at l.memory l.shadow (256 * l.first + i);
  kept : (w : ℕ) → w / 4 ≢ l.page - l.first → get_or l.masks.items w 0 ≡ get_or l.initial.masks.items w 0;
}
