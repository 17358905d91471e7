use Rattle.std.proofs.Common.{◌∙◌, sym, ap, arith}
use Rattle.heap_model.specs.ShadowLaws.{get_or-bits_of}
use Rattle.heap_core.proofs.StoredLaws.{painted_by_row, row_reaches}
use Rattle.tag_memory.specs.Tags.{is_set_for}
use Rattle.heap_core.proofs.table.Table.is_in_due_block.Goals as goal

pub row_bit-requires : goal.row_bit-requires
row_bit-requires c =
    let inside = c.requires in
    omega (arith, c.deref.ensures.len, c.self.invariant.rows.due, row_reaches c.self.inside c.self.invariant c.args.granule (rw (← c.self.view_is) at inside))

pub returns : goal.returns
returns c =
    let inside = c.requires in
    let k = c.args.granule in
    let within = rw (← c.self.view_is) at inside in
    rw (← c.self.view_is) (c.row_bit.ensures ∙ ap (λ xs. is_set_for xs c.args.granule) c.deref.ensures.value
    ∙ sym (get_or-bits_of c.self.inside.rows.due.items k (omega (arith, row_reaches c.self.inside c.self.invariant k within, c.self.invariant.rows.due)))
    ∙ painted_by_row c.self.inside c.self.invariant k within)
