use Rattle.std.proofs.Common.{◌∙◌, sym, ap, arith}
use Rattle.heap_model.specs.ShadowLaws.{get_or-bits_of, length-bits_of}
use Rattle.tag_memory.specs.Tags.{is_set_for}
use Rattle.heap_model.proofs.shadow.Shadow.painted.Goals as goal

pub row_bit-requires : goal.row_bit-requires
row_bit-requires c =
    let inside = c.requires in
    let there = rw (← c.self.view_is) at inside in
    omega (arith, there, c.deref.ensures.len, length-bits_of c.self.inside.words.items)

pub returns : goal.returns
returns c =
    let inside = c.requires in
    let there = rw (← c.self.view_is) at inside in
    rw (← c.self.view_is) (c.row_bit.ensures ∙ (ap (λ xs. is_set_for xs c.args.granule) c.deref.ensures.value
    ∙ sym (get_or-bits_of c.self.inside.words.items c.args.granule (omega (arith, there, length-bits_of c.self.inside.words.items)))))
