use Rattle.std.proofs.Common.{◌∙◌, ◌<◌, ◌*◌, sym, length, refl, arith}
use Rattle.std.proofs.lemmas.Bool.{true≢false}
use Rattle.heap_core.proofs.LateLaws.{read_late}
use Rattle.heap_core.proofs.table.Table.kind_at.Goals as goal

pub returns-then-row_bit-clause-live : goal.returns-then-row_bit-clause-live
returns-then-row_bit-clause-live c = λ _ early.
    let within : c.args.granule < 64 * length c.args.late.now = omega (arith, c.requires.bits, c.requires.inside) in
    let late = read_late c.args.late.now c.args.late.now c.args.granule c.row_bit.result within refl c.row_bit.ensures in
    absurd (true≢false (sym c.if-row_bit.true ∙ (sym late ∙ early)))

pub returns-clause-late : goal.returns-clause-late
returns-clause-late c = λ _ is.
    let within : c.args.granule < 64 * length c.args.late.now = omega (arith, c.requires.bits, c.requires.inside) in
    let late = read_late c.args.late.now c.args.late.now c.args.granule c.row_bit.result within refl c.row_bit.ensures in
    absurd (true≢false (sym is ∙ (late ∙ c.if-row_bit.false)))
