use Rattle.std.proofs.Common.{◌≡◌, ◌<◌, ◌≤◌, ◌↔◌, ℕ, false, length}
use Rattle.sweep_masks.specs.Masks.{IsPassedTo, is_looked_at}
use Rattle.sweep_masks.proofs.alone.fill_pages.Given as goal

abbrev pub invariant-loop-page : goal.invariant-loop-page
invariant-loop-page l = record {
  count : length l.masks.items ≡ length l.initial.masks.items;
  made : IsPassedTo l.memory l.shadow l.dirty_only l.page l.masks.items;
  looked : (l.looked ≡ false) ↔ ((page : ℕ) → l.from ≤ page → page < l.page → is_looked_at l.memory l.dirty_only page ≡ false);
}
