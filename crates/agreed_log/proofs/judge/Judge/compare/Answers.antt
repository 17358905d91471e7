use Rattle.std.proofs.Common.{IfOk, rules, subst}
use Rattle.machine_steps.specs.Step.{Step}
use Rattle.agreed_log.proofs.AgreedLaws.{IsAnsweredEvent-command}
use Rattle.agreed_log.proofs.judge.Judge.compare.Goals as goal

pub returns-clause-event : goal.returns-clause-event
returns-clause-event g c =
    let old = c.args.self.now.machine.state in
    let new = c.step-stepped.new.machine.state in
    let reply = c.in-Ok.reply in
    let step = subst (λ r. IfOk r (λ reply. Step old c.args.command reply new)) c.in-Ok.is c.step-stepped.ensures.step in
    let follows = c.any_placement_law.ensures.steps old c.args.command reply new c.requires.safe step in
    IsAnsweredEvent-command c.args.command c.args.told.now reply old new c.args.self.now.tally c.count.new.tally
    (c.says_reply.ensures (search rules)) follows c.count.ensures.value
