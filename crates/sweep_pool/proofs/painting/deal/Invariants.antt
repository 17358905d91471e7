use Rattle.std.proofs.Common.{◌≡◌, ◌+◌}
use Rattle.std.specs.Vec.{vec_len}
use Rattle.mark_board.specs.Board.{IsOf, IsSeat, no_bits}
use Rattle.sweep_pool.specs.Painting.{EachAt, IsUnpainted}
use Rattle.sweep_pool.proofs.painting.deal.Given as goal

abbrev pub invariant-loop-number : goal.invariant-loop-number
invariant-loop-number l = record {
  board : IsOf l.board l.rest;
  parts : l.rest.parts + l.number ≡ l.workers;
  count : vec_len l.shares ≡ l.number;
  none : l.rest.mine ≡ no_bits l.board;
  sound : IsSeat l.rest;
  shares : EachAt (IsUnpainted l.board l.workers) l.shares.items;
}
