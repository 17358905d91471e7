use Rattle.std.proofs.Common.{◌∙◌, ◌+◌, ◌*◌, ◌<◌, ◌^◌, sym, arith}
use Rattle.tag_memory.specs.Laws.{some_bit}
use Rattle.machine_storage.proofs.storage.Storage.is_page_due.Goals as goal

pub returns-then-due_mask-ne0-clause-some : goal.returns-then-due_mask-ne0-clause-some
returns-then-due_mask-ne0-clause-some c =
    let fits : c.due_mask.result < 2 ^ 64 = omega arith in
    let bit = some_bit 64 c.due_mask.result fits c.if-due_mask-ne0.true in
    λ _. record { granule = 64 * c.loop-w.w + bit.bit; taken = sym (c.due_mask.ensures bit.bit bit.below) ∙ bit.one }
