use Rattle.std.proofs.Common.{◌≡◌, refl, arith}
use Rattle.std.specs.Prelude.{count_ones}
use Rattle.heap_model.specs.Heap.{due}
use Rattle.heap_model.specs.Laws.{due-open}
use Rattle.heap_model.specs.Sweep.{AreInDirtyPages, tags_taken}
use Rattle.machine_storage.proofs.SweepStep.{count-clean}
use Rattle.machine_storage.proofs.storage.Storage.end_clean.Goals as goal

pub returns : goal.returns
returns c =
    let m = c.args.self.now in
    let dirtied : AreInDirtyPages m.memory.granules m.memory.dirty (due m.heap) = rw (due-open m.heap c.requires.opened) c.requires.storage.dirtied in
    let bits = c.due_registers-revoked.ensures in
    let count : count_ones c.due_registers-revoked.result ≡ tags_taken (due m.heap) m.memory.granules m.registers =
    count-clean (due m.heap) m.memory m.registers c.due_registers-revoked.result dirtied c.requires.clean
    c.requires.storage.sound.count c.requires.storage.sound.zero bits (omega arith) in
    record {
      reply = rw (count, c.due_bytes.ensures) refl;
      state = refl;
      can = record { opened = c.requires.opened; clean = c.requires.clean; bits = bits };
      dirty = refl;
    }
