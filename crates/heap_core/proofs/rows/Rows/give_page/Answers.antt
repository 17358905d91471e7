use Rattle.std.proofs.Common.{◌+◌, ◌*◌, ◌&&◌, not, refl, ap}
use Rattle.granule_rows.specs.Runs.{is_within}
use Rattle.heap_core.proofs.RowLaws.{AreGiven-within, bits-written, length-written}
use Rattle.tag_memory.specs.Tags.{is_set_for}
use Rattle.heap_core.proofs.rows.Rows.give_page.Goals as goal

pub returns-clause-given : goal.returns-clause-given
returns-clause-given c =
    let first = 4 * c.args.page in
    let test = is_within (64 * (4 * c.args.page)) (64 * (4 * c.args.page + 4)) in
    let given = c.vacate_words.ensures.bits in
    let cleared = c.clear_words.ensures in
    AreGiven-within c.args.self.now _ test
    (ap (λ n. 64 * n) (length-written _ c.deref_mut.ensures.value c.deref_mut.ensures.len c.clear_words.auto.words))
    refl
    (rw c.deref.ensures.value at given)
    (bits-written _ c.deref_mut.ensures.value c.deref_mut.ensures.len c.clear_words.auto.words
    (λ k b. b && not (test k && is_set_for c.args.self.now.due.items k)) (rw c.deref-2.ensures.value at cleared))
    (bits-written _ c.deref_mut-2.ensures.value c.deref_mut-2.ensures.len c.clear_run.auto.words (λ k b. b && not (test k)) c.clear_run.ensures.bits)
