use Rattle.std.proofs.Common.{◌≡◌, replicate, ap, ◌∙◌, false, length, refl, arith}
use Rattle.std.proofs.lemmas.Grind.{common_steps}
use Rattle.std.proofs.lemmas.List.{length-replicate}
use Rattle.heap_core.proofs.EmptyLaws.{zeros}
use Rattle.heap_core.proofs.StoredLaws.{AreStored-new, lengths_of-none, marks_of-none}
use Rattle.heap_core.proofs.table.Table.new.Goals as goal

pub invariant_of-result : goal.invariant_of-result
invariant_of-result c =
    let made = c.in_ok-rows.ensures in
    let lengths : c.in_ok-lengths.lengths.items ≡ zeros c.args.granules = grind (arith, common_steps) in
    AreStored-new _ c.args.granules lengths made.rows made.count made.free made.starts made.due

pub returns-clause-lengths : goal.returns-clause-lengths
returns-clause-lengths c =
    let lengths : c.in_ok-lengths.lengths.items ≡ zeros c.args.granules = grind (arith, common_steps) in
    lengths_of-none _ _ c.in_ok-rows.ensures.starts ∙ ap zeros (ap length lengths ∙ length-replicate c.args.granules 0)

pub returns-clause-marks : goal.returns-clause-marks
returns-clause-marks c =
    let lengths : c.in_ok-lengths.lengths.items ≡ zeros c.args.granules = grind (arith, common_steps) in
    marks_of-none _ _ _ (λ k. rw (c.in_ok-rows.ensures.starts k) refl) ∙ ap (λ n. replicate n false) (ap length lengths ∙ length-replicate c.args.granules 0)
