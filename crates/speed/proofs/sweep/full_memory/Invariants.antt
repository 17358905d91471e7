use Rattle.std.proofs.Common.{◌≡◌, length}
use Rattle.speed.proofs.sweep.full_memory.Given as goal

abbrev pub invariant-loop-granule : goal.invariant-loop-granule
invariant-loop-granule l = length l.memory.granules ≡ length l.initial.memory.granules
