use Rattle.std.proofs.Common.{ℕ, ◌≡◌, ◌<◌, ◌≤◌, ◌*◌, ◌^◌, ◌∙◌, ap, arith, length, subst, sym}
use Rattle.std.specs.List.{All}
use Rattle.tag_memory.specs.Cells.{MemoryState}
use Rattle.tag_memory.specs.Extent.{page_granules, page_words}
use Rattle.tag_memory.proofs.PackedLaws.{Packs, cleared, cleared_count, count, taken_blank, taken_marks, taken_word}
use Rattle.tag_memory.proofs.TakenLaws.{still_blank}
use Rattle.tag_memory.proofs.memory.Memory.clear_tags.Goals as goal

pub take_tags-requires-clause-masks : goal.take_tags-requires-clause-masks
take_tags-requires-clause-masks c =
    let p : Packs c.self.inside c.args.self.now = record { view = c.self.view_is; invariant = c.self.invariant } in
    omega (arith, count p, c.self.invariant, c.requires, c.loop-page-test.true, c.loop-page.auto, c.len-page-end.ensures, c.loop-page.invariant.taken.marks)

pub take_tags-requires-clause-blank : goal.take_tags-requires-clause-blank
take_tags-requires-clause-blank c = λ unmarked.
    still_blank c.loop-page.invariant.taken c.index-may_hold.result.now (omega (arith, c.loop-page-test.true)) c.index-may_hold.ensures unmarked c.self.invariant.blank

pub invariant_of-self : goal.invariant_of-self
invariant_of-self c =
    let p : Packs c.self.inside c.args.self.now = record { view = c.self.view_is; invariant = c.self.invariant } in
    let l = c.loop-page.invariant in
    let old = c.self.invariant in
    let all : length c.loop-page.self-inside.may_hold.items ≤ c.loop-page.page = omega (arith, c.loop-page-test.false, c.len-page-end.ensures, l.taken.marks) in
    record {
      granules = ap length l.bits ∙ (old.granules ∙ ap (λ (n : ℕ). page_granules * n) (sym l.pages));
      words = l.taken.count ∙ (old.words ∙ ap (λ (n : ℕ). page_words * n) (sym l.pages));
      size = rw l.pages old.size;
      place = rw (l.pages, l.base) old.place;
      numbers = subst (All (λ (number : ℕ). number < 2 ^ 128)) (sym l.bits) old.numbers;
      bases = rw (l.base, l.bases, l.bits) old.bases;
      marks = l.taken.marks ∙ (old.marks ∙ sym l.pages);
      blank = taken_blank p l.taken all;
      dirty_marks = ap length l.dirty ∙ (old.dirty_marks ∙ sym l.pages);
    }

pub returns-clause-granules : goal.returns-clause-granules
returns-clause-granules c =
    let p : Packs c.self.inside c.args.self.now = record { view = c.self.view_is; invariant = c.self.invariant } in
    let taken = c.loop-page.invariant.taken in
    let all : length c.loop-page.self-inside.may_hold.items ≤ c.loop-page.page = omega (arith, c.loop-page-test.false, c.len-page-end.ensures, taken.marks) in
    let words : length c.args.masks.now ≡ length c.self.inside.tags.items = omega (arith, count p, c.self.invariant, c.requires) in
    let done = λ (w : ℕ) (h : w < length c.args.masks.now). taken_word p taken all w (omega (arith, h, words)) in
    cleared p c.args.masks.now c.loop-page.self-inside.bits.items c.loop-page.self-inside.tags.items c.requires c.type_inv.masks c.loop-page.invariant.bits done

pub returns-clause-count : goal.returns-clause-count
returns-clause-count c =
    let p : Packs c.self.inside c.args.self.now = record { view = c.self.view_is; invariant = c.self.invariant } in
    cleared_count p c.loop-page.self-inside.bits.items c.loop-page.self-inside.tags.items c.loop-page.invariant.bits

pub returns-clause-marks : goal.returns-clause-marks
returns-clause-marks c =
    let p : Packs c.self.inside c.args.self.now = record { view = c.self.view_is; invariant = c.self.invariant } in
    let taken = c.loop-page.invariant.taken in
    let all : length c.loop-page.self-inside.may_hold.items ≤ c.loop-page.page = omega (arith, c.loop-page-test.false, c.len-page-end.ensures, taken.marks) in
    taken_marks p taken all c.loop-page.self-inside.bits.items c.loop-page.invariant.bits

pub returns-clause-dirty : goal.returns-clause-dirty
returns-clause-dirty c = c.loop-page.invariant.dirty ∙ ap (λ (m : MemoryState). m.dirty) c.self.view_is
