use Rattle.std.proofs.Common.{◌≡◌, ◌∙◌, ◌&&◌, sym, ap, false, true, arith}
use Rattle.heap_core.proofs.StoredLaws.{mark_read, row_reaches}
use Rattle.tag_memory.specs.Tags.{is_set_for}
use Rattle.heap_core.proofs.table.Table.is_due_at.Goals as goal

pub row_bit-requires : goal.row_bit-requires
row_bit-requires c =
    let inside = c.requires in
    omega (arith, c.deref.ensures.len, row_reaches c.self.inside c.self.invariant c.args.granule (rw (← c.self.view_is) at inside))

pub row_bit-requires-then-row_bit : goal.row_bit-requires-then-row_bit
row_bit-requires-then-row_bit c =
    let inside = c.requires in
    omega (arith, c.deref-then-row_bit.ensures.len, c.self.invariant.rows.due, row_reaches c.self.inside c.self.invariant c.args.granule (rw (← c.self.view_is) at inside))

pub returns-then-row_bit : goal.returns-then-row_bit
returns-then-row_bit c =
    let inside = c.requires in
    let start : is_set_for c.self.inside.rows.starts.items c.args.granule ≡ true = ap (λ xs. is_set_for xs c.args.granule) (sym c.deref.ensures.value) ∙ sym c.if-row_bit.ensures in
    let due : c.row_bit-then-row_bit.result ≡ is_set_for c.self.inside.rows.due.items c.args.granule = c.row_bit-then-row_bit.ensures ∙ ap (λ xs. is_set_for xs c.args.granule) c.deref-then-row_bit.ensures.value in
    rw (← c.self.view_is) (due ∙ (ap (λ b. b && is_set_for c.self.inside.rows.due.items c.args.granule) (sym start)
    ∙ mark_read c.self.inside c.self.invariant c.args.granule (rw (← c.self.view_is) at inside)))

pub returns-else-row_bit : goal.returns-else-row_bit
returns-else-row_bit c =
    let inside = c.requires in
    let none : is_set_for c.self.inside.rows.starts.items c.args.granule ≡ false = ap (λ xs. is_set_for xs c.args.granule) (sym c.deref.ensures.value) ∙ sym c.if-row_bit.ensures in
    rw (← c.self.view_is) (c.if-row_bit.false ∙ (ap (λ b. b && is_set_for c.self.inside.rows.due.items c.args.granule) (sym none)
    ∙ mark_read c.self.inside c.self.invariant c.args.granule (rw (← c.self.view_is) at inside)))
