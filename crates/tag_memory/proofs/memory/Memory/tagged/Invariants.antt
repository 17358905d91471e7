use Rattle.std.proofs.Common.{◌≡◌, ◌*◌, count_by, take}
use Rattle.tag_memory.proofs.memory.Memory.tagged.Given as goal

abbrev pub invariant-loop-word : goal.invariant-loop-word
invariant-loop-word l = l.count ≡ count_by (λ cell. cell.1) (take (64 * l.word-index) l.self.granules)
