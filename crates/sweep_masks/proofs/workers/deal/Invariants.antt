use Rattle.std.proofs.Common.{◌≡◌, ◌+◌, All}
use Rattle.std.specs.Vec.{vec_len}
use Rattle.mark_board.specs.Board.{IsOf, IsSeat, no_bits}
use Rattle.sweep_masks.specs.Work.{IsJob}
use Rattle.sweep_masks.proofs.workers.deal.Given as goal

abbrev pub invariant-loop-worker : goal.invariant-loop-worker
invariant-loop-worker l = record {
  board : IsOf l.board l.rest;
  parts : l.rest.parts + l.worker ≡ l.workers + 1;
  count : vec_len l.jobs + 1 ≡ l.worker;
  none : l.rest.mine ≡ no_bits l.board;
  sound : IsSeat l.rest;
  jobs : All (IsJob l.board) l.jobs.items;
}
