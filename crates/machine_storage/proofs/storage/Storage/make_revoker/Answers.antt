use Rattle.machine_storage.specs.RevokerDecision.{CanVisit}
use Rattle.machine_storage.specs.Storage.{state_of}
use Rattle.machine_storage.proofs.MadeLaws.{revoked-base}
use Rattle.machine_storage.proofs.RevokerLaws.{page-left, released-left}
use Rattle.machine_storage.proofs.storage.Storage.make_revoker.Goals as goal

pub returns-in-Visits-clause-state : goal.returns-in-Visits-clause-state
returns-in-Visits-clause-state c =
    let m = c.args.self.now in
    let can : CanVisit c.args.self.now c.in-Visits.page c.in-Visits.masks = rw c.in-Visits.is at c.requires.can in
    let taken = c.clear_page_tags.ensures in
    rw (c.in-Visits.is, c.mark_page_clean.ensures) (page-left (state_of m) c.in-Visits.page c.in-Visits.masks c.clear_page_tags.new.self.granules can.masks_take taken.count taken.granules)

pub returns-in-Releases-clause-state : goal.returns-in-Releases-clause-state
returns-in-Releases-clause-state c =
    let m = c.args.self.now in
    rw c.in-Releases.is (released-left m c.give_back.new.self (rw c.in-Releases.is at c.requires.can) c.give_back.ensures.free)

pub returns-in-Releases-clause-base : goal.returns-in-Releases-clause-base
returns-in-Releases-clause-base c = revoked-base c.args.self.now c.give_back.new.self c.requires.storage.base c.give_back.ensures.free
