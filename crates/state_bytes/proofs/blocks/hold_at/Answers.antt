use Rattle.state_bytes.proofs.UptoLaws.{held_at}
use Rattle.state_bytes.proofs.blocks.hold_at.Goals as goal

pub returns-clause-held : goal.returns-clause-held
returns-clause-held c some may =
    held_at c.args.heap.now c.claim_at.new.heap c.release_at.new.heap c.args.i c.args.length c.release_at.result may (c.claim_at.ensures.claimed some may).1 c.release_at.ensures.held
