use Rattle.std.proofs.Common.{subst}
use Rattle.trace_text.specs.Lines.{words_of}
use Rattle.log_text.specs.Asking.{IsAskedLine}
use Rattle.agreed_log.proofs.AgreedLaws.{IsAgreedLine-told}
use Rattle.agreed_log.proofs.judge.Judge.line.Goals as goal

pub returns-clause-line : goal.returns-clause-line
returns-clause-line g c =
    let old = c.args.self.now in
    let new = c.event.new.self in
    let asks = subst (IsAskedLine (words_of c.args.line.now)) c.in-Some.is c.in_ok-asked.ensures in
    IsAgreedLine-told c.args.line.now c.in-Some.asked c.in-Some.told old.machine.state new.machine.state old.tally new.tally c.event.result asks c.event.ensures.event
