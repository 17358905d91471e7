use Rattle.std.proofs.Common.{◌<◌, ◌∙◌, arith, length, refl, sym}
use Rattle.std.proofs.lemmas.List.{get_or_read, length-set}
use Rattle.std.specs.Prelude.{false}
use Rattle.tag_memory.proofs.PackedLaws.{Packs, cleared_count, count}
use Rattle.tag_memory.proofs.PageTakenLaws.{IsPageTaken, blank_page, left_blank, left_granule, left_mark}
use Rattle.tag_memory.proofs.memory.Memory.clear_page_tags.Goals as goal

pub index-may_hold-requires : goal.index-may_hold-requires
index-may_hold-requires c =
    let p : Packs c.self.inside c.args.self.now = record { view = c.self.view_is; invariant = c.self.invariant } in
    omega (arith, count p, c.self.invariant, c.requires)

pub take_page_tags-requires-clause-words : goal.take_page_tags-requires-clause-words
take_page_tags-requires-clause-words c =
    let p : Packs c.self.inside c.args.self.now = record { view = c.self.view_is; invariant = c.self.invariant } in
    omega (arith, count p, c.self.invariant, c.requires)

pub take_page_tags-requires-clause-blank : goal.take_page_tags-requires-clause-blank
take_page_tags-requires-clause-blank c =
    let p : Packs c.self.inside c.args.self.now = record { view = c.self.view_is; invariant = c.self.invariant } in
    let inside : c.args.page < length c.self.inside.may_hold.items = omega (arith, count p, c.self.invariant, c.requires) in
    λ unmarked. blank_page p c.args.page (sym (get_or_read c.self.inside.may_hold.items c.args.page c.index-may_hold.result.now inside c.index-may_hold.ensures false) ∙ unmarked)

pub index_mut-requires : goal.index_mut-requires
index_mut-requires c =
    let p : Packs c.self.inside c.args.self.now = record { view = c.self.view_is; invariant = c.self.invariant } in
    omega (arith, count p, c.self.invariant, c.requires)

pub invariant_of-self : goal.invariant_of-self
invariant_of-self c =
    let p : Packs c.self.inside c.args.self.now = record { view = c.self.view_is; invariant = c.self.invariant } in
    let inside : c.args.page < length c.self.inside.may_hold.items = omega (arith, count p, c.self.invariant, c.requires) in
    let taken = c.take_page_tags.ensures in
    let t : IsPageTaken c.args.masks.now c.self.inside.tags.items c.take_page_tags.new.tags.items c.args.page c.take_page_tags.result =
    record { count = taken.count; words = taken.words; rest = taken.rest; none = taken.none; some = taken.some } in
    let kept = c.self.invariant in
    record {
      granules = kept.granules;
      words = taken.count ∙ kept.words;
      size = kept.size;
      place = kept.place;
      numbers = kept.numbers;
      bases = kept.bases;
      marks = length-set _ _ _ ∙ kept.marks;
      blank = left_blank p t inside;
      dirty_marks = kept.dirty_marks;
    }

pub returns-clause-granules : goal.returns-clause-granules
returns-clause-granules c =
    let p : Packs c.self.inside c.args.self.now = record { view = c.self.view_is; invariant = c.self.invariant } in
    let inside : c.args.page < length c.self.inside.may_hold.items = omega (arith, count p, c.self.invariant, c.requires) in
    let taken = c.take_page_tags.ensures in
    let t : IsPageTaken c.args.masks.now c.self.inside.tags.items c.take_page_tags.new.tags.items c.args.page c.take_page_tags.result =
    record { count = taken.count; words = taken.words; rest = taken.rest; none = taken.none; some = taken.some } in
    left_granule p t inside c.type_inv.masks

pub returns-clause-count : goal.returns-clause-count
returns-clause-count c =
    let p : Packs c.self.inside c.args.self.now = record { view = c.self.view_is; invariant = c.self.invariant } in
    cleared_count p c.self.inside.bits.items c.take_page_tags.new.tags.items refl

pub returns-clause-mark : goal.returns-clause-mark
returns-clause-mark c =
    let p : Packs c.self.inside c.args.self.now = record { view = c.self.view_is; invariant = c.self.invariant } in
    let inside : c.args.page < length c.self.inside.may_hold.items = omega (arith, count p, c.self.invariant, c.requires) in
    let taken = c.take_page_tags.ensures in
    let t : IsPageTaken c.args.masks.now c.self.inside.tags.items c.take_page_tags.new.tags.items c.args.page c.take_page_tags.result =
    record { count = taken.count; words = taken.words; rest = taken.rest; none = taken.none; some = taken.some } in
    left_mark p t inside
