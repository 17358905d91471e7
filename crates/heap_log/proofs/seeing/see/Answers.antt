use Rattle.heap_log.proofs.SeenLaws.{outside}
use Rattle.heap_log.proofs.seeing.see.Goals as goal

pub returns-in_default : goal.returns-in_default
returns-in_default c =
    outside c.args.machine.now.state c.args.address c.args.tag c.args.bytes c.memory-memory.result.now.base c.memory-memory.result.now.granules c.memory-memory.ensures.base c.memory-memory.ensures.granules c.in_default.ensures
