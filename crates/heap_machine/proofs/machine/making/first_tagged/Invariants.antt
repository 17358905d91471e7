use Rattle.std.proofs.Common.{◌≡◌, ◌<◌, ◌≤◌, ◌*◌, ℕ, false}
use Rattle.tag_memory.specs.Tags.{is_tagged}
use Rattle.heap_machine.proofs.machine.making.first_tagged.Given as goal

abbrev pub invariant-loop-w : goal.invariant-loop-w
invariant-loop-w l = (k : ℕ) → l.from ≤ k → k < 64 * l.w → is_tagged l.memory.granules k ≡ false
