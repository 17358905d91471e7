use Rattle.std.proofs.Common.{rules, ◌≡◌}
use Rattle.heap_machine.proofs.machine.Machine.copy.Goals as goal

pub invariant_of-result : goal.invariant_of-result
invariant_of-result c =
    let heap : c.in-Ok.heap ≡ c.self.inside.storage.heap = search rules in
    let memory : c.in-Ok-copy.memory ≡ c.self.inside.storage.memory = search rules in
    let registers : c.copy-3.result ≡ c.self.inside.storage.registers = search rules in
    rw (heap, memory, registers) c.self.invariant
