use Rattle.std.proofs.Common.{◌≤◌, length, ap, arith}
use Rattle.trace_text.proofs.MarkLaws.{stops_before}
use Rattle.trace_text.proofs.marked.Line.before.Goals as goal

pub invariant_of-result : goal.invariant_of-result
invariant_of-result c =
    let within : c.args.count ≤ length c.self.inside.bytes.now = omega (arith, c.requires, ap length c.self.view_is) in
    λ seen. stops_before c.self.inside.bytes.now c.self.inside.stops c.args.count (c.self.invariant seen) within
