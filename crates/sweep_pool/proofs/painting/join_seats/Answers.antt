use Rattle.std.proofs.Common.{rules, ◌≡◌, ◌≤◌, ◌+◌, ◌++◌, ◌∷◌, [], ℕ, ap, arith, length, subst, sym, ◌∙◌}
use Rattle.heap_model.specs.Heap.{due}
use Rattle.sweep_pool.specs.Painting.{HasPainted, IsPaintedShare, share_start}
use Rattle.sweep_pool.proofs.PaintLaws.{each_prefix, one_longer, painted-join, share_last, share_limit, share_order}
use Rattle.sweep_pool.proofs.painting.join_seats.Goals as goal

pub loop-seat-init : goal.loop-seat-init
loop-seat-init g c =
    let s = c.args.painting.now.heap.now in
    let board = c.args.painting.now.board.now in
    let workers : ℕ = c.args.painting.now.workers in
    let items : c.args.seats.items ≡ c.pop.new.self.items ++ c.in-Some.whole ∷ [] = search rules in
    let each = each_prefix (IsPaintedShare s board workers) c.args.seats.items c.pop.new.self.items c.in-Some.whole items c.requires.painted in
    let long = one_longer c.args.seats.items c.pop.new.self.items c.in-Some.whole items in
    let all : length c.pop.new.self.items + 1 ≡ workers = omega (arith, long, c.requires.count) in
    let last : share_start (length (due s)) workers (length c.pop.new.self.items + 1) ≡ length (due s) = ap (share_start (length (due s)) workers) all ∙ share_last (length (due s)) workers c.requires.some in
    record {
      few = omega (arith, all);
      left = each.0;
      painted = subst (λ (n : ℕ). HasPainted s board (share_start (length (due s)) workers (length c.pop.new.self.items)) n c.in-Some.whole) last each.1.painted;
      parts = omega (arith, all, each.1.part);
    }

pub join-whole-requires : goal.join-whole-requires
join-whole-requires g c =
    let items : c.loop-seat.seats.items ≡ c.pop-in-loop-seat.new.self.items ++ c.in-Some-pop.seat ∷ [] = search rules in
    let each = each_prefix (IsPaintedShare c.args.painting.now.heap.now c.args.painting.now.board.now c.args.painting.now.workers) c.loop-seat.seats.items c.pop-in-loop-seat.new.self.items c.in-Some-pop.seat items c.loop-seat.invariant.left in
    record { board = (c.loop-seat.invariant.painted.of, each.1.painted.of) }

pub loop-seat-preserved : goal.loop-seat-preserved
loop-seat-preserved g c =
    let s = c.args.painting.now.heap.now in
    let board = c.args.painting.now.board.now in
    let workers : ℕ = c.args.painting.now.workers in
    let l = c.loop-seat.invariant in
    let items : c.loop-seat.seats.items ≡ c.pop-in-loop-seat.new.self.items ++ c.in-Some-pop.seat ∷ [] = search rules in
    let each = each_prefix (IsPaintedShare s board workers) c.loop-seat.seats.items c.pop-in-loop-seat.new.self.items c.in-Some-pop.seat items l.left in
    let long = one_longer c.loop-seat.seats.items c.pop-in-loop-seat.new.self.items c.in-Some-pop.seat items in
    let n : ℕ = length c.pop-in-loop-seat.new.self.items in
    let next : share_start (length (due s)) workers (length c.pop-in-loop-seat.new.self.items + 1) ≡ share_start (length (due s)) workers (length c.loop-seat.seats.items) = ap (share_start (length (due s)) workers) (sym long) in
    let order = subst (λ (b : ℕ). share_start (length (due s)) workers (length c.pop-in-loop-seat.new.self.items) ≤ b) next (share_order (length (due s)) workers (length c.pop-in-loop-seat.new.self.items) c.requires.some) in
    let one = subst (λ (b : ℕ). HasPainted s board (share_start (length (due s)) workers (length c.pop-in-loop-seat.new.self.items)) b c.in-Some-pop.seat) next each.1.painted in
    let limit = share_limit (length (due s)) workers (length c.loop-seat.seats.items) l.few in
    record {
      few = omega (arith, long, l.few);
      left = each.0;
      painted = painted-join s board _ _ (length (due s)) c.loop-seat.whole c.in-Some-pop.seat c.join-whole.result order limit l.painted one c.join-whole.ensures.board c.join-whole.ensures.sound c.join-whole.ensures.mine c.join-whole.ensures.seen;
      parts = omega (arith, long, l.parts, each.1.part, c.join-whole.ensures.parts);
    }
