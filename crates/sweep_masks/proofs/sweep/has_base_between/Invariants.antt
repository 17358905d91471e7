use Rattle.std.proofs.Common.{◌≡◌, ◌<◌, ◌+◌, ◌*◌, ℕ, false}
use Rattle.sweep_masks.specs.Outside.{HasBaseOutside}
use Rattle.sweep_masks.proofs.sweep.has_base_between.Given as goal

abbrev pub invariant-loop-j : goal.invariant-loop-j
invariant-loop-j l = l.is_between ≡ false → (k : ℕ) → k < l.j → HasBaseOutside l.memory l.first l.end (64 * l.w + k)
