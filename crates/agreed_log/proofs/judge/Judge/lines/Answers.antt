use Rattle.std.proofs.Common.{arith}
use Rattle.trace_text.specs.Lines.{lines_of}
use Rattle.agreed_log.proofs.AgreedLaws.{HaveAgreed-more}
use Rattle.heap_log.specs.CountingLaws.{AreFew-more, HasRoom-few}
use Rattle.agreed_log.proofs.judge.Judge.lines.Goals as goal

pub line-requires-clause-room : goal.line-requires-clause-room
line-requires-clause-room g c =
    HasRoom-few c.loop-line.number c.loop-line.self.tally c.loop-line.invariant.few (omega (arith, c.loop-line.invariant.number, c.in-Some.ensures.shorter))

pub loop-line-preserved : goal.loop-line-preserved
loop-line-preserved g c =
    let before = c.loop-line.invariant in
    let number = c.loop-line.number in
    let old = c.loop-line.self in
    let new = c.line.new.self in
    record {
      so_far = HaveAgreed-more c.args.first (lines_of c.args.text.now) number c.loop-line.rest.now c.in-Some.line c.in-Some.after.now
          c.args.self.now.machine.state old.machine.state new.machine.state old.tally new.tally before.so_far c.in-Some.ensures.line c.in_ok-line.ensures.line;
      few = AreFew-more number old.tally new.tally before.few c.in_ok-line.ensures.few;
      number = omega (arith, before.number, c.in-Some.ensures.shorter);
      safe = c.line.ensures.safe;
    }
