-- The lines so far are written, and there is room for what the next one makes the revoker do.
use Rattle.std.proofs.Common.{◌≤◌, ◌<◌, ◌+◌, ◌^◌, length}
use Rattle.std.specs.Vec.{vec_capacity}
use Rattle.trace_text.specs.Lines.{lines_of}
use Rattle.revoker_runs.proofs.PlanLaws.{SoFar}
use Rattle.revoker_runs.proofs.plan.write_plan.Given as goal

abbrev pub invariant-loop-line : goal.invariant-loop-line
invariant-loop-line g l = record {
  so_far : SoFar g.R.Revoker.own g.R.Revoker.takes g.R.Revoker.does g.R.Revoker.steps l.first l.fn.revoker (lines_of l.text) l.fn.log.items l.number l.revoker (lines_of l.rest) l.log.items;
  number : l.number + length l.rest < 2 ^ 32;
  room : 1057 ≤ vec_capacity l.acts;
}

abbrev pub decreases-loop-line : goal.decreases-loop-line
decreases-loop-line g l = length l.rest
