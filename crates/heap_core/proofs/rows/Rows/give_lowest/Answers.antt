use Rattle.std.proofs.Common.{◌≡◌, ◌+◌, ◌*◌, ◌∙◌, true, ap, refl, sym, arith, length}
use Rattle.std.proofs.lemmas.List.{get_or_read_under}
use Rattle.heap_core.proofs.RowLaws.{AreGiven-then, AreGiven-unmarked, AreRows-unmarked, IsUnmarked-bit}
use Rattle.tag_memory.specs.Laws.{is_set_for-at}
use Rattle.tag_memory.specs.Tags.{is_set, is_set_for}
use Rattle.heap_core.proofs.rows.Rows.give_lowest.Goals as goal

pub give_page-requires-clause-inside : goal.give_page-requires-clause-inside
give_page-requires-clause-inside c =
    let marks = c.args.self.now.due_pages.items in
    let j = c.lowest_bit.result in
    let read = get_or_read_under marks c.args.w (length marks) _ 0 c.index-word.ensures c.requires.inside refl in
    let marked : is_set_for c.args.self.now.due_pages.items (64 * c.args.w + j) ≡ true =
    is_set_for-at marks c.args.w j c.lowest_bit.ensures.within ∙ (ap (λ x. is_set x j) (sym read) ∙ c.lowest_bit.ensures.one) in
    omega (arith, c.requires.rows.inside _ marked, c.requires.rows.whole)

pub returns-clause-rows : goal.returns-clause-rows
returns-clause-rows c =
    let page = 64 * c.args.w + c.lowest_bit.result in
    let lowest = c.lowest_bit.ensures in
    let less = c.without_lowest.ensures.bits _ lowest.one lowest.below in
    AreRows-unmarked c.give_page.new.self _ page c.give_page.ensures.rows c.give_page.ensures.gone refl refl refl
    (IsUnmarked-bit _ c.give_page.ensures.pages c.requires.inside c.index-word.ensures lowest.within less)

pub returns-clause-given : goal.returns-clause-given
returns-clause-given c =
    let page = 64 * c.args.w + c.lowest_bit.result in
    let lowest = c.lowest_bit.ensures in
    let less = c.without_lowest.ensures.bits _ lowest.one lowest.below in
    AreGiven-then c.give_page.ensures.given (AreGiven-unmarked c.give_page.new.self _ page refl refl refl
    (IsUnmarked-bit _ c.give_page.ensures.pages c.requires.inside c.index-word.ensures lowest.within less))
