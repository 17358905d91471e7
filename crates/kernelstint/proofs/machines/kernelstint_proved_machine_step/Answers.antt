use Rattle.std.proofs.Common.{rules, sym}
use Rattle.kernelstint.specs.Machines.IsMachineStep.{does_command, does_revoker}
use Rattle.kernelstint.proofs.machines.kernelstint_proved_machine_step.Goals as goal

pub returns-in-Ok-clause-step : goal.returns-in-Ok-clause-step
returns-in-Ok-clause-step c = λ _. does_command (record {
  from = c.take-held.result.value;
  to = c.step_alone-answered.new.self;
  command = c.in-Some-command_of.command;
  reply = c.in-Ok.told;
  old_is = c.take-held.ensures.taken;
  new_is = c.put.ensures;
  command_is = search rules;
  reply_is = c.reply_record.ensures.value;
  step = search rules;
  dirty = search rules;
  unused = search rules;
  revoked = search rules;
  exact = λ exact.
      c.exact_blocks_law.ensures.steps c.take-held.result.value.state c.in-Some-command_of.command c.in-Ok.told c.step_alone-answered.new.self.state (search rules) exact (search rules);
})

pub returns-in-Some-clause-step : goal.returns-in-Some-clause-step
returns-in-Some-clause-step c = λ _. does_revoker (c.revoke_held.ensures c.args.command (sym c.in-Some.ensures.value))
