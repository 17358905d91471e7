use Rattle.std.proofs.Common.{rules, ◌≡◌, ◌++◌, Ok}
use Rattle.sweep_masks.specs.Work.{IsDoneBy}
use Rattle.sweep_masks.specs.declared.workers.Work.{Work}
use Rattle.sweep_masks.proofs.CountLaws.{together}
use Rattle.sweep_masks.proofs.workers.join_one.Goals as goal

pub returns-clause-done : goal.returns-clause-done
returns-clause-done g c =
    let one : Work = c.args.one in
    let found = c.in_ok-found.found in
    let ok : one.found ≡ Ok found = search rules in
    let two : IsDoneBy c.args.shared.now one.seat found.items = (let q = c.requires.one.found in rw ok at q) in
    let items : c.append.new.self.items ≡ c.args.done.list.items ++ found.items = search rules in
    together c.args.shared.now items c.join.ensures.apart c.join.ensures.mine c.join.ensures.seen c.requires.done two
