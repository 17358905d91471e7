use Rattle.std.proofs.Common.{◌≡◌, ◌∙◌, rules, true, ap, refl, sym}
use Rattle.heap_model.specs.Quarantine.{freed_of}
use Rattle.heap_model.specs.declared.block.Freed.TheVariants as TheFreed
use Rattle.cap_codec.specs.Words.{bounds_in}
use Rattle.tag_memory.specs.Cells.{Cell, register_at}
use Rattle.machine_storage.specs.Storage.{state_of}
use Rattle.machine_steps.specs.FreedBlock.{Step-free}
use Rattle.machine_storage.proofs.storage.Storage.free.Goals as goal

pub returns-in-Held : goal.returns-in-Held
returns-in-Held c =
    let s = state_of c.args.self.now in
    let is : c.bounds-base.result ≡ bounds_in (register_at c.args.self.now.registers c.args.rs).0 =
    c.bounds-base.ensures.value ∙ ap (λ (cell : Cell). bounds_in cell.0) c.get-tag.ensures.value in
    let tagged : (register_at c.args.self.now.registers c.args.rs).1 ≡ true = sym (ap (λ (cell : Cell). cell.1) c.get-tag.ensures.value) ∙ c.if-not-tag.false in
    let held : freed_of c.args.self.now.heap c.bounds-base.result.base c.bounds-base.result.top ≡ TheFreed.Held = sym c.freed_of.ensures ∙ c.in-Held.is in
    record {
      step = rw (c.from.ensures, is) (Step-free s c.args.rs _ c.requires.storage.sound.safe.heap tagged (rw is at held) refl);
      can = held;
      dirty = search rules;
    }
