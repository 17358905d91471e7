use Rattle.std.proofs.Common.{◌≡◌, Ok, ap}
use Rattle.heap_model.specs.Quarantine.{freed_of}
use Rattle.state_bytes.proofs.ExactLaws.{release_exact}
use Rattle.state_bytes.proofs.blocks.release_at.Goals as goal

pub returns-in-Ok-Held-clause-exact : goal.returns-in-Ok-Held-clause-exact
returns-in-Ok-Held-clause-exact c =
    let answer = c.in-Ok-Held.ensures.answer in
    release_exact c.args.heap.now _ _ c.release.new.self c.in-Ok-Held.field-0 (cc) c.in-Ok-Held.field-0-is (c.in-Ok-Held.ensures.held (ap (λ it. Ok it) c.in-Ok-Held.field-0-is))
