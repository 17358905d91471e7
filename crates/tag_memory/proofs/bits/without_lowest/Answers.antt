use Rattle.tag_memory.proofs.BitLaws.{is_set-without_lowest}
use Rattle.tag_memory.proofs.bits.without_lowest.Goals as goal

pub returns-clause-bits : goal.returns-clause-bits
returns-clause-bits c = is_set-without_lowest c.args.word
