use Rattle.std.proofs.Common.{◌+◌, ◌*◌, ◌∙◌}
use Rattle.state_bytes.proofs.WholeText.{place_of, registers_same_as, registers_written}
use Rattle.state_bytes.proofs.encoding.encode_registers_into.Goals as goal

pub returns-clause-text : goal.returns-clause-text
returns-clause-text c = λ m text same.
    let n = c.args.machine.now in
    registers_written m n _ c.args.out.now _ (13 + 21 * c.granules.result) same text
    (place_of m c.memory.result.now.granules c.granules.result (c.memory.ensures.granules ∙ same.granules) c.granules.ensures)
    (registers_same_as n c.registers.result.now c.registers.ensures)
    c.put_registers.ensures
