use Rattle.std.proofs.Common.{refl}
use Rattle.byte_machine.specs.declared.fault.CallFault.TheVariants as fault
use Rattle.kernelstint.proofs.machines.kernelstint_proved_machine_open.Goals as goal

-- Memory ran out when the machine was boxed.
pub returns-in_default-clause-fault : goal.returns-in_default-clause-fault
returns-in_default-clause-fault c = λ _. record { fault = fault.Memory; holds = tt; code_is = refl }
