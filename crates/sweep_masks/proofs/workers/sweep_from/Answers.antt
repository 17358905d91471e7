use Rattle.std.proofs.Common.{rules, ◌≡◌, ◌++◌, ◌∷◌, [], arith}
use Rattle.mark_board.specs.Laws.{seat-of_board}
use Rattle.sweep_masks.specs.declared.task.Swept.{Swept}
use Rattle.sweep_masks.proofs.CountLaws.{IsNext, grown}
use Rattle.sweep_masks.proofs.workers.sweep_from.Goals as goal

pub loop-next-preserved : goal.loop-next-preserved
loop-next-preserved g c =
    let h = c.loop-next.invariant in
    let s : Swept = c.in-Some.swept in
    let (from, known, swept) = rw c.in-Some.is at c.in_ok-next_swept.ensures.swept in
    let (fresh, mine, run) = rw c.in-Some.is at c.in_ok-next_swept.ensures.claims in
    let (wide, _, _, _) = seat-of_board c.args.shared.now.board.now c.loop-next.seat h.board h.sound in
    let one : IsNext c.args.shared.now c.loop-next.seat c.sweep_next.new.seat c.loop-next.next s =
    record { swept = swept; inside = omega arith; fresh = fresh; mine = mine; seen = c.sweep_next.ensures.seen; run = run } in
    let push : c.push.new.self.items ≡ c.loop-next.found.items ++ s ∷ [] = search rules in
    record {
      board = c.sweep_next.ensures.board;
      parts = search rules;
      low = (let a = h.low in omega arith);
      high = (let a = c.bits-tasks.ensures in omega arith);
      done = rw push (grown h.done one);
      sound = c.sweep_next.ensures.sound;
    }
