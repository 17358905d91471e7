use Rattle.std.proofs.Common.{◌<◌, ◌^◌, ◌∙◌, ap, arith}
use Rattle.std.proofs.lemmas.List.{length-set}
use Rattle.std.proofs.lemmas.List.Elements.{All-set}
use Rattle.tag_memory.specs.Cells.{MemoryState}
use Rattle.tag_memory.proofs.BaseLaws.{base_granules-written}
use Rattle.tag_memory.proofs.PackedLaws.{Packs, base_place, count, page_place, place, put_dirt, put_mark, put_marked, put_no_dirt, put_no_mark, put_unmarked, written}
use Rattle.tag_memory.proofs.memory.Memory.put.Goals as goal

pub index_mut-requires : goal.index_mut-requires
index_mut-requires c =
    let p : Packs c.self.inside c.args.self.now = record { view = c.self.view_is; invariant = c.self.invariant } in
    omega (arith, place p c.args.i c.requires)

pub index_mut-requires-2 : goal.index_mut-requires-2
index_mut-requires-2 c =
    let p : Packs c.self.inside c.args.self.now = record { view = c.self.view_is; invariant = c.self.invariant } in
    omega (arith, base_place p c.args.i c.requires)

pub index_mut-word-requires : goal.index_mut-word-requires
index_mut-word-requires c =
    let p : Packs c.self.inside c.args.self.now = record { view = c.self.view_is; invariant = c.self.invariant } in
    omega (arith, place p c.args.i c.requires)

pub index_mut-requires-then-tag : goal.index_mut-requires-then-tag
index_mut-requires-then-tag c =
    let p : Packs c.self.inside c.args.self.now = record { view = c.self.view_is; invariant = c.self.invariant } in
    omega (arith, page_place p c.args.i c.requires)

pub index_mut-requires-then-tag-2 : goal.index_mut-requires-then-tag-2
index_mut-requires-then-tag-2 c =
    let p : Packs c.self.inside c.args.self.now = record { view = c.self.view_is; invariant = c.self.invariant } in
    omega (arith, count p, c.self.invariant, c.requires)

pub invariant_of-self : goal.invariant_of-self
invariant_of-self c =
    let p : Packs c.self.inside c.args.self.now = record { view = c.self.view_is; invariant = c.self.invariant } in
    let kept = c.self.invariant in
    record {
      granules = length-set _ _ _ ∙ kept.granules;
      words = length-set _ _ _ ∙ kept.words;
      size = kept.size;
      place = kept.place;
      numbers = All-set (λ number. number < 2 ^ 128) _ _ _ c.ranges.bits.fits kept.numbers;
      bases = base_granules-written c.self.inside.base c.self.inside.bits.items c.self.inside.granules_of_bases.items c.args.i c.args.bits _ kept.bases c.base_granule.ensures;
      marks = length-set _ _ _ ∙ kept.marks;
      blank = put_marked p c.args.i c.with_bit.result c.requires;
      dirty_marks = length-set _ _ _ ∙ kept.dirty_marks;
    }

pub invariant_of-self-else-tag : goal.invariant_of-self-else-tag
invariant_of-self-else-tag c =
    let p : Packs c.self.inside c.args.self.now = record { view = c.self.view_is; invariant = c.self.invariant } in
    let kept = c.self.invariant in
    record {
      granules = length-set _ _ _ ∙ kept.granules;
      words = length-set _ _ _ ∙ kept.words;
      size = kept.size;
      place = kept.place;
      numbers = All-set (λ number. number < 2 ^ 128) _ _ _ c.ranges.bits.fits kept.numbers;
      bases = base_granules-written c.self.inside.base c.self.inside.bits.items c.self.inside.granules_of_bases.items c.args.i c.args.bits _ kept.bases c.base_granule.ensures;
      marks = kept.marks;
      blank = put_unmarked p c.args.i c.with_bit.result c.index_mut-word.result.now c.args.tag c.requires (omega arith) c.index_mut-word.ensures.value c.if-tag.false c.with_bit.ensures;
      dirty_marks = kept.dirty_marks;
    }

pub returns-then-tag : goal.returns-then-tag
returns-then-tag c =
    let p : Packs c.self.inside c.args.self.now = record { view = c.self.view_is; invariant = c.self.invariant } in
    let base = ap (λ (m : MemoryState). m.base) c.self.view_is in
    let granules = written p c.args.i c.args.bits c.index_mut-word.result.now c.with_bit.result c.args.tag c.requires c.index_mut-word.ensures.value c.with_bit.ensures in
    λ k. record { base = base k; granules = granules k; may_hold = put_mark p c.args.i c.args.tag c.if-tag.true k; dirty = put_dirt p c.args.i c.args.tag c.if-tag.true k }

pub returns-else-tag : goal.returns-else-tag
returns-else-tag c =
    let p : Packs c.self.inside c.args.self.now = record { view = c.self.view_is; invariant = c.self.invariant } in
    let base = ap (λ (m : MemoryState). m.base) c.self.view_is in
    let granules = written p c.args.i c.args.bits c.index_mut-word.result.now c.with_bit.result c.args.tag c.requires c.index_mut-word.ensures.value c.with_bit.ensures in
    λ k. record { base = base k; granules = granules k; may_hold = put_no_mark p c.args.i c.args.tag c.if-tag.false k; dirty = put_no_dirt p c.args.i c.args.tag c.if-tag.false k }
