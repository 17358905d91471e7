use Rattle.std.proofs.Common.{arith, rules}
use Rattle.trace_text.specs.Lines.{lines_of}
use Rattle.revoker_runs.proofs.PlanLaws.{SoFar-all, SoFar-fault, SoFar-more}
use Rattle.revoker_runs.proofs.plan.write_plan.Goals as goal

pub returns-in_err-write_line-clause-fault : goal.returns-in_err-write_line-clause-fault
returns-in_err-write_line-clause-fault g c = λ fault is.
    let r = g.R.Revoker in
    let so = c.loop-line in
    SoFar-fault r.own r.takes r.does r.steps c.args.first c.args.revoker.now (lines_of c.args.text.now) c.args.log.now.items so.number so.revoker (lines_of so.rest.now) so.log.items
    c.in-Some.line (lines_of c.in-Some.after.now) fault so.invariant.so_far c.in-Some.ensures.line (c.in_err-write_line.ensures.fault fault (search rules))

pub loop-line-preserved : goal.loop-line-preserved
loop-line-preserved g c =
    let r = g.R.Revoker in
    let so = c.loop-line in
    let wrote = c.in_ok-write_line.ensures.writes in
    record {
      so_far = SoFar-more r.own r.takes r.does r.steps c.args.first c.args.revoker.now (lines_of c.args.text.now) c.args.log.now.items so.number so.revoker (lines_of so.rest.now) so.log.items
          c.in-Some.line (lines_of c.in-Some.after.now) wrote.0 c.write_line.new.revoker c.write_line.new.text.items so.invariant.so_far c.in-Some.ensures.line wrote.1 wrote.2;
      number = omega (arith, so.invariant.number, c.in-Some.ensures.shorter);
      room = omega (arith, so.invariant.room, c.write_line.ensures.kept);
    }

pub returns-clause-writes : goal.returns-clause-writes
returns-clause-writes g c =
    let r = g.R.Revoker in
    let so = c.loop-line in
    SoFar-all r.own r.takes r.does r.steps c.args.first c.args.revoker.now (lines_of c.args.text.now) c.args.log.now.items so.number so.revoker (lines_of so.rest.now) so.log.items
    so.invariant.so_far (search rules)
