use Rattle.std.proofs.Common.{◌≡◌, ◌∙◌, ◌||◌, ◌<◌, ◌*◌, sym, ap, false, length, get_or, refl, arith}
use Rattle.heap_model.specs.Shadow.{bits_of}
use Rattle.heap_core.proofs.LateLaws.{get_or-either, read_late}
use Rattle.heap_model.specs.ShadowLaws.{length-bits_of}
use Rattle.heap_core.proofs.table.Table.is_held.Goals as goal

pub returns-then-is_due_at : goal.returns-then-is_due_at
returns-then-is_due_at c =
    let marks = c.args.self.now.marks in
    let lates = bits_of c.args.late.now in
    let same : length (bits_of c.args.late.now) ≡ length c.args.self.now.marks = length-bits_of c.args.late.now ∙ (c.requires.bits ∙ sym c.requires.same) in
    sym (get_or-either marks lates c.args.granule same ∙ ap (λ b. b || get_or lates c.args.granule false) (sym c.is_due_at.ensures ∙ c.if-is_due_at.true) ∙ sym c.if-is_due_at.true)

pub returns-else-is_due_at : goal.returns-else-is_due_at
returns-else-is_due_at c =
    let marks = c.args.self.now.marks in
    let lates = bits_of c.args.late.now in
    let same : length (bits_of c.args.late.now) ≡ length c.args.self.now.marks = length-bits_of c.args.late.now ∙ (c.requires.bits ∙ sym c.requires.same) in
    let within : c.args.granule < 64 * length c.args.late.now = omega (arith, c.requires.bits, c.requires.inside) in
    let late = read_late c.args.late.now c.args.late.now c.args.granule c.row_bit.result within refl c.row_bit.ensures in
    sym (get_or-either marks lates c.args.granule same ∙ ap (λ b. b || get_or lates c.args.granule false) (sym c.is_due_at.ensures ∙ c.if-is_due_at.false) ∙ late)
