use Rattle.std.proofs.Common.{◌∙◌, sym, arith}
use Rattle.std.proofs.lemmas.List.{ext_get_or}
use Rattle.tag_memory.specs.Cells.{null_cell}
use Rattle.state_data.proofs.snapshot.copied_registers.Goals as goal

pub returns : goal.returns
returns c =
    ext_get_or null_cell c.loop-r.copy c.args.registers.now (c.loop-r.invariant.count ∙ sym c.invariant.ensures.count)
    (λ k lt. c.loop-r.invariant.done k (omega (arith, lt, c.loop-r.invariant.count, c.loop-r-test.false)))
