use Rattle.std.proofs.Common.{◌-◌, ◌+◌, arith, rules}
use Rattle.trace_text.specs.Lines.{lines_of}
use Rattle.revoker_runs.specs.Answer.{head_text}
use Rattle.revoker_runs.proofs.HeadLaws.{head-done, head-end, head-next}
use Rattle.revoker_runs.proofs.answer.head.Goals as goal

pub returns-in_default : goal.returns-in_default
returns-in_default c =
    head-end c.loop.head.items (head_text c.args.text.now c.args.next) (c.args.next - c.loop.counter) (lines_of c.loop.rest.now) (search rules) c.loop.invariant

pub loop-preserved : goal.loop-preserved
loop-preserved c =
    head-next c.loop.head.items (head_text c.args.text.now c.args.next) c.push_line.new.text.items (c.args.next - c.loop.counter) (c.args.next - (c.loop.counter + 1)) (lines_of c.loop.rest.now)
    c.in-Some.line (lines_of c.in-Some.after.now) c.in-Some.ensures.line (omega (arith, c.loop-test.true)) c.in_ok-push_line.ensures c.loop.invariant

pub returns : goal.returns
returns c =
    head-done c.loop.head.items (head_text c.args.text.now c.args.next) (c.args.next - c.loop.counter) (lines_of c.loop.rest.now) (omega (arith, c.loop-test.false)) c.loop.invariant
