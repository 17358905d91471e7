use Rattle.std.proofs.Common.{◌∙◌, refl, sym}
use Rattle.heap_model.specs.Heap.{due}
use Rattle.heap_model.specs.Laws.{due-open}
use Rattle.heap_model.specs.Sweep.{AreInDirtyPages}
use Rattle.machine_steps.specs.SweptState.{begun-none}
use Rattle.machine_storage.specs.Decision.{CanBegin, CanEndClean}
use Rattle.machine_storage.specs.Revoked.{AreApplied}
use Rattle.machine_storage.specs.Storage.{state_of}
use Rattle.machine_storage.proofs.MadeLaws.{begins-left, revoked-base, revoked-left}
use Rattle.machine_storage.proofs.SweepStep.{AreApplied-clean}
use Rattle.machine_storage.proofs.storage.Storage.make.Goals as goal

pub returns-in-BeginsEmpty-clause-state : goal.returns-in-BeginsEmpty-clause-state
returns-in-BeginsEmpty-clause-state c =
    let m = c.args.self.now in
    rw (c.in-BeginsEmpty.is, c.begin_epoch.ensures) (sym (begun-none (state_of m) (rw c.in-BeginsEmpty.is at c.requires.can).1))

pub returns-in-Begins-clause-state : goal.returns-in-Begins-clause-state
returns-in-Begins-clause-state c =
    let m = c.args.self.now in
    let can : CanBegin m c.in-Begins.masks.items = rw c.in-Begins.is at c.requires.can in
    let taken = rw c.deref.ensures.value at c.clear_tags.ensures.granules in
    rw (c.in-Begins.is, c.begin_epoch-in-Begins.ensures) (begins-left (state_of m) m.memory c.in-Begins.masks.items c.clear_tags.new.self.granules refl can.masks_take taken)

pub returns-in-Registers-clause-state : goal.returns-in-Registers-clause-state
returns-in-Registers-clause-state c =
    let m = c.args.self.now in
    let can : CanEndClean m c.in-Registers.mask = rw c.in-Registers.is at c.requires.can in
    let dirtied : AreInDirtyPages m.memory.granules m.memory.dirty (due m.heap) = rw (due-open m.heap can.opened) c.requires.storage.dirtied in
    let cleared = c.clear_tags-in-Registers.ensures in
    let taken : AreApplied (due m.heap) m.memory m.registers m.memory c.clear_tags-in-Registers.new.self =
    AreApplied-clean (due m.heap) m.memory m.registers c.clear_tags-in-Registers.new.self c.in-Registers.mask dirtied can.clean
    c.requires.storage.sound.count c.requires.storage.sound.zero can.bits cleared.count cleared.zero cleared.cells in
    rw c.in-Registers.is (revoked-left m c.give_back.new.self m.memory c.clear_tags-in-Registers.new.self c.give_back.ensures.free taken)

pub returns-in-Registers-clause-base : goal.returns-in-Registers-clause-base
returns-in-Registers-clause-base c = revoked-base c.args.self.now c.give_back.new.self c.requires.storage.base c.give_back.ensures.free

pub returns-in-Revokes-clause-base : goal.returns-in-Revokes-clause-base
returns-in-Revokes-clause-base c =
    c.apply.ensures.base ∙ revoked-base c.args.self.now c.give_back-in-Revokes.new.self c.requires.storage.base c.give_back-in-Revokes.ensures.free
