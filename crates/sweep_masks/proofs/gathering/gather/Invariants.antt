use Rattle.std.proofs.Common.{◌≡◌, ◌<◌, ◌*◌, ℕ, get_or, length, take, true, false}
use Rattle.sweep_masks.specs.Gather.{IsGathered}
use Rattle.sweep_masks.proofs.gathering.gather.Given as goal

abbrev pub invariant-loop-swept : goal.invariant-loop-swept
invariant-loop-swept l = record {
  count : length l.masks.items ≡ 4 * l.pages;
  flags : length l.done.items ≡ l.tasks;
  gathered : IsGathered l.cutting l.tasks l.pages (take l.swept-index l.fn.list.items) l.done.items l.masks.items;
}

abbrev pub invariant-loop-task : goal.invariant-loop-task
invariant-loop-task l = (k : ℕ) → k < l.task → get_or l.done.items k false ≡ true
