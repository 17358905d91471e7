use Rattle.agreed_log.proofs.AgreedLaws.{IsAgreed-start}
use Rattle.agreed_log.proofs.text.agreed.Goals as goal

pub returns : goal.returns
returns g c =
    IsAgreed-start c.args.text.now c.in-Ok.opening c.deref.result.now c.in-Ok-start.machine.state c.lines.new.self.machine.state c.lines.new.self.tally
    c.in-Ok.ensures.start c.deref.ensures.value c.in-Ok-start.ensures.made c.in-Ok-start.ensures.sound c.in_ok-lines.ensures
