use Rattle.std.proofs.Common.{◌∙◌, ◌/◌, ◌<◌, ◌^◌, refl, sym, ap, arith}
use Rattle.std.proofs.lemmas.Bool.{true≢false}
use Rattle.heap_model.specs.Laws.{due-open}
use Rattle.heap_model.specs.Sweep.{takes_tag}
use Rattle.tag_memory.specs.Cells.{cell_of}
use Rattle.std.proofs.Common.{false, get_or}
use Rattle.machine_storage.proofs.RevokerLaws.{nothing-left, register-left}
use Rattle.machine_storage.proofs.storage.Storage.has_left.Goals as goal

pub returns-then-due_registers-ne0-clause-some : goal.returns-then-due_registers-ne0-clause-some
returns-then-due_registers-ne0-clause-some c =
    let fits : c.due_registers.result < 2 ^ 32 = omega arith in
    λ _. register-left c.args.self.now c.requires.storage c.requires.opened c.due_registers.result fits c.if-due_registers-ne0.true c.due_registers.ensures

pub returns-else-due_registers-ne0-clause-none : goal.returns-else-due_registers-ne0-clause-none
returns-else-due_registers-ne0-clause-none c =
    λ none. nothing-left c.args.self.now c.requires.storage c.requires.opened c.due_registers.result c.if-due_registers-ne0.false c.due_registers.ensures (λ i. c.has_due_page.ensures.none none (i / 256) i refl)

pub returns-else-due_registers-ne0-clause-some : goal.returns-else-due_registers-ne0-clause-some
returns-else-due_registers-ne0-clause-some c =
    let m = c.args.self.now in
    λ some left.
    let one = c.has_due_page.ensures.some some in
    let cell = cell_of (get_or m.memory.granules one.granule (0, false)) in
    true≢false (sym one.taken ∙ (ap (λ held. takes_tag held cell) (due-open m.heap c.requires.opened) ∙ left.granules one.granule))
