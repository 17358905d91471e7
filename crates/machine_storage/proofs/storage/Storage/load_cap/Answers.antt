use Rattle.std.proofs.Common.{rules, false}
use Rattle.std.proofs.lemmas.Option.{get_or_from_slice_get}
use Rattle.machine_storage.proofs.storage.Storage.load_cap.Goals as goal

pub returns : goal.returns
returns c = record {
  step = search (rules, get_or_from_slice_get c.args.self.now.memory.granules c.in-Ok.i c.cell-bits.result (0, false) c.cell-bits.ensures);
  can = search rules;
  dirty = search rules;
}
