use Rattle.std.proofs.Common.{◌≡◌, ◌/◌, ap, ◌∙◌, length, arith}
use Rattle.std.proofs.lemmas.Grind.{common_steps}
use Rattle.std.proofs.lemmas.List.{length-replicate}
use Rattle.heap_core.proofs.EmptyLaws.{zeros}
use Rattle.heap_core.proofs.RowLaws.{AreRows-new, no_bits}
use Rattle.heap_core.proofs.rows.Rows.new.Goals as goal

pub returns-clause-rows : goal.returns-clause-rows
returns-clause-rows c =
    let starts : c.in_ok-starts.starts.items ≡ zeros (c.args.granules / 64) = grind (arith, common_steps) in
    let due : c.in_ok-due.due.items ≡ zeros (c.args.granules / 64) = grind (arith, common_steps) in
    let due_pages : c.in_ok-due_pages.due_pages.items ≡ zeros c.div_ceil.result = grind (arith, common_steps) in
    AreRows-new _ c.args.granules c.requires.limit c.requires.whole (omega (arith, c.in_ok-free.ensures.count, c.vacate.ensures.count))
    (ap length starts ∙ length-replicate (c.args.granules / 64) 0)
    (ap length due ∙ length-replicate (c.args.granules / 64) 0)
    (ap length due_pages ∙ (length-replicate c.div_ceil.result 0 ∙ omega (arith, c.div_ceil.ensures)))
    (λ k. no_bits _ _ k due)
    (λ page. no_bits _ _ page due_pages)
