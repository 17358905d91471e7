use Rattle.std.proofs.Common.{◌*◌, ◌<◌, arith, length}
use Rattle.revokers.proofs.SeenLaws.{IsLooked-visited}
use Rattle.revokers.proofs.reloaded.Reloaded.look_at.Goals as goal

pub returns-clause-looks : goal.returns-clause-looks
returns-clause-looks c =
    let old = c.args.self.now in
    let done = c.visit-reply.ensures in
    let inside : 256 * c.args.page < length old.machine.state.granules = omega (arith, c.requires.page, c.invariant.ensures.pages) in
    IsLooked-visited c.args.page old c.cleared_of.result c.visit-reply.result c.visit-reply.new.self (c.invariant.ensures.epoch c.requires.started).is_open inside
    done.step done.seen done.started done.cutting done.dirty c.cleared_of.ensures.value
