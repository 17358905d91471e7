use Rattle.std.proofs.Common.{rules, ◌≡◌, ◌++◌, ◌∷◌, [], arith}
use Rattle.std.proofs.lemmas.List.Elements.{All-push}
use Rattle.sweep_masks.specs.Work.{IsJob}
use Rattle.sweep_masks.specs.declared.workers.Job.{Job}
use Rattle.sweep_masks.proofs.workers.deal.Goals as goal

pub loop-worker-preserved : goal.loop-worker-preserved
loop-worker-preserved c =
    let h = c.loop-worker.invariant in
    let cut = c.split-kept.ensures in
    let job : Job = record { seat = c.split-kept.result.1; start = c.start_of-start.result } in
    let is : IsJob c.args.board.now job = record {
      seat = cut.board.1;
      part = cut.parts.1;
      none = cut.mine.1;
      start = (let s = c.start_of-start.ensures in let e = c.bits-tasks.ensures in omega arith);
      sound = cut.sound.1;
    } in
    let push : c.push.new.self.items ≡ c.loop-worker.jobs.items ++ job ∷ [] = search rules in
    record {
      board = cut.board.0;
      parts = (let p = cut.parts.0 in let q = h.parts in omega arith);
      count = search rules;
      none = search rules;
      sound = cut.sound.0;
      jobs = rw push (All-push (IsJob c.args.board.now) c.loop-worker.jobs.items job h.jobs is);
    }

pub returns-clause-jobs : goal.returns-clause-jobs
returns-clause-jobs c =
    let h = c.loop-worker.invariant in
    let job : Job = record { seat = c.loop-worker.rest; start = 0 } in
    let is : IsJob c.args.board.now job = record {
      seat = h.board;
      part = (let p = h.parts in search rules);
      none = h.none;
      start = omega arith;
      sound = h.sound;
    } in
    let push : c.push-2.new.self.items ≡ c.loop-worker.jobs.items ++ job ∷ [] = search rules in
    rw push (All-push (IsJob c.args.board.now) c.loop-worker.jobs.items job h.jobs is)
