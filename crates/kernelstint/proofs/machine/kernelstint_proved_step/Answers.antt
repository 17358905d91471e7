use Rattle.std.proofs.Common.{sym}
use Rattle.kernelstint.specs.Calls.IsHostStep.{does_command, does_revoker}
use Rattle.kernelstint.proofs.machine.kernelstint_proved_step.Goals as goal

pub returns-in-Some-clause-step : goal.returns-in-Some-clause-step
returns-in-Some-clause-step c = λ e.
    let told = c.revoke_told.ensures.step e in
    does_revoker c.in-Some.command told.0 (sym c.in-Some.ensures.value) told.1 told.2

pub returns-in-Ok-clause-step : goal.returns-in-Ok-clause-step
returns-in-Ok-clause-step c = λ _. does_command c.in-Some-command_of.command c.in-Ok.told c.in-Some-command_of.ensures c.reply_record.ensures.value c.in-Ok.ensures.step
