use Rattle.revokers.proofs.SeenLaws.{finishes_seen}
use Rattle.revokers.proofs.reloaded.Reloaded.finish_started.Goals as goal

pub returns-clause-finishes : goal.returns-clause-finishes
returns-clause-finishes c =
    let old = c.args.self.now in
    finishes_seen old.seen old.machine.state c.look_at_all-cleared.new.self.machine.state c.release_seen-bytes.new.self.machine.state c.look_at_all-cleared.result c.release_seen-bytes.result
    c.args.acts.now.items c.look_at_all-cleared.new.acts.items c.release_seen-bytes.new.acts.items
    c.look_at_all-cleared.ensures.visits c.release_seen-bytes.ensures.step c.release_seen-bytes.ensures.told

pub returns-clause-in_use : goal.returns-clause-in_use
returns-clause-in_use c =
    c.passes_law.ensures.in_use c.look_at_all-cleared.new.self.machine.state c.release_seen-bytes.result c.release_seen-bytes.new.self.machine.state
    c.invariant.ensures.sound.safe c.release_seen-bytes.ensures.step
