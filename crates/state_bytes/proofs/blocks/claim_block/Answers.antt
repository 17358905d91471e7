use Rattle.heap_model.specs.Laws.{no_reason}
use Rattle.state_bytes.proofs.ExactLaws.{claim_exact, claim_stays}
use Rattle.state_bytes.proofs.blocks.claim_block.Goals as goal

pub returns-in-Ok-clause-exact : goal.returns-in-Ok-clause-exact
returns-in-Ok-clause-exact c = claim_exact c.args.heap.now c.args.base c.args.top c.claim.result c.claim.new.self c.claim.ensures.claim

pub returns-in-Err : goal.returns-in-Err
returns-in-Err c =
    let still = claim_stays c.args.heap.now c.args.base c.args.top c.claim.result c.claim.new.self c.claim.ensures.claim in
    record {
      claimed = λ may. absurd (no_reason c.args.heap.now c.args.base c.args.top c.in-Err.field-0 may c.in-Err.ensures.claim.0);
      size = still.size;
      «open» = still.open_is;
      exact = claim_exact c.args.heap.now c.args.base c.args.top c.claim.result c.claim.new.self c.claim.ensures.claim;
    }
