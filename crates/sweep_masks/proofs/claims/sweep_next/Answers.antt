use Rattle.std.proofs.Common.{rules, ◌≡◌, ◌+◌, ◌%◌, ℕ, arith}
use Rattle.sweep_masks.specs.Claims.{HasAll, with_task}
use Rattle.mark_board.specs.Bits.{has}
use Rattle.sweep_masks.proofs.MarkLaws.{IsMarked, IsMaskOf-task, bit_inside, free, missed, saw, took}
use Rattle.sweep_masks.proofs.claims.sweep_next.Goals as goal

pub mark-requires-clause-mask : goal.mark-requires-clause-mask
mark-requires-clause-mask c = IsMaskOf-task c.args.board.now c.loop-task.task (let e = c.bits-task-end.ensures in let l = c.loop-task-test.true in omega arith)

pub returns-then-mark-ne0-clause-seen : goal.returns-then-mark-ne0-clause-seen
returns-then-mark-ne0-clause-seen c =
    let h = c.loop-task.invariant in
    let k : ℕ = c.loop-task.task in
    let (found, _, _, answered, seen) = c.mark.ensures.found in
    let marked : IsMarked k c.mark.result c.loop-task.seat c.mark.new.seat = record { found = found; answered = answered; seen = seen; mine = c.mark.ensures.mine } in
    let inside = bit_inside c.args.board.now c.loop-task.seat k h.board h.sound (let e = c.bits-task-end.ensures in let l = c.loop-task-test.true in omega arith) in
    let (within, run) = saw c.args.seat.now.seen c.args.from marked inside h.seen h.run in
    within

pub returns-then-mark-ne0-clause-claims : goal.returns-then-mark-ne0-clause-claims
returns-then-mark-ne0-clause-claims c =
    let h = c.loop-task.invariant in
    let k : ℕ = c.loop-task.task in
    let (found, _, _, answered, seen) = c.mark.ensures.found in
    let marked : IsMarked k c.mark.result c.loop-task.seat c.mark.new.seat = record { found = found; answered = answered; seen = seen; mine = c.mark.ensures.mine } in
    let inside = bit_inside c.args.board.now c.loop-task.seat k h.board h.sound (let e = c.bits-task-end.ensures in let l = c.loop-task-test.true in omega arith) in
    let (within, run) = saw c.args.seat.now.seen c.args.from marked inside h.seen h.run in
    let first = c.args.seat.now.mine in
    let (apart, _) = c.mark.ensures.fresh (k % 64) in
    let all : (has first k ≡ 0) × (c.mark.new.seat.mine ≡ with_task first k) × HasAll c.mark.new.seat.seen c.args.from (k + 1) =
    (free first marked h.mine (search rules) apart, took first marked h.mine (search rules), run) in
    rw c.swept_into.ensures.task all

pub loop-task-preserved : goal.loop-task-preserved
loop-task-preserved c =
    let h = c.loop-task.invariant in
    let k : ℕ = c.loop-task.task in
    let (found, _, _, answered, seen) = c.mark.ensures.found in
    let marked : IsMarked k c.mark.result c.loop-task.seat c.mark.new.seat = record { found = found; answered = answered; seen = seen; mine = c.mark.ensures.mine } in
    let inside = bit_inside c.args.board.now c.loop-task.seat k h.board h.sound (let e = c.bits-task-end.ensures in let l = c.loop-task-test.true in omega arith) in
    let (within, run) = saw c.args.seat.now.seen c.args.from marked inside h.seen h.run in
    record {
      board = c.mark.ensures.board;
      parts = search rules;
      mine = missed c.args.seat.now.mine marked h.mine (search rules);
      seen = within;
      run = run;
      sound = c.mark.ensures.sound;
    }
