use Rattle.tag_memory.proofs.BitLaws.{is_set-or, is_set-and_not}
use Rattle.tag_memory.proofs.bits.with_bit.Goals as goal

pub returns-then-bit : goal.returns-then-bit
returns-then-bit c = λ k h. rw c.if-bit.true (is_set-or c.args.word c.args.j k c.requires h)

pub returns-else-bit : goal.returns-else-bit
returns-else-bit c = λ k h. rw c.if-bit.false (is_set-and_not c.args.word c.args.j k c.requires h)
