use Rattle.std.proofs.Common.{◌∙◌, ◌+◌, ◌||◌, ℕ, List, ap, length}
use Rattle.std.proofs.lemmas.List.{with_items_is}
use Rattle.granule_rows.specs.Runs.{is_within}
use Rattle.heap_model.specs.Shadow.{bits_of}
use Rattle.tag_memory.specs.Tags.{is_set_for}
use Rattle.heap_core.proofs.LateLaws.{bits_of-set}
use Rattle.heap_core.proofs.heap.quarantine.mark_late.Goals as goal

pub returns : goal.returns
returns c =
    let row = c.args.late.now in
    let start = c.args.start in
    ap bits_of (with_items_is row c.set_run.new.words (c.set_run.auto.words ∙ c.deref_mut.ensures.len))
    ∙ bits_of-set row.items c.set_run.new.words start (c.set_run.auto.words ∙ ap length c.deref_mut.ensures.value) c.requires.within
    (λ k. c.set_run.ensures.bits k ∙ ap (λ (xs : List ℕ). is_within start (start + 1) k || is_set_for xs k) c.deref_mut.ensures.value)
