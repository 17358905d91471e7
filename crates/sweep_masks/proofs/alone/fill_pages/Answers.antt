use Rattle.std.proofs.Common.{rules, ◌∙◌, sym}
use Rattle.sweep_masks.proofs.PassLaws.{IsPassedTo-looked, IsPassedTo-passed}
use Rattle.sweep_masks.proofs.alone.fill_pages.Goals as goal
use Rattle.sweep_masks.proofs.alone.fill_pages.Goals.{then-looks_at, else-looks_at}

pub loop-page-preserved : goal.loop-page-preserved
loop-page-preserved c =
    let h = c.loop-page.invariant in
    elim c.if-looks_at.branch [
      | then-looks_at w ↦ record {
        count = search rules;
        made = rw w.masks-is (IsPassedTo-looked (sym c.looks_at.ensures ∙ w.if-looks_at.true) w.fill_page.ensures.made w.fill_page.ensures.kept h.made);
        looked = search rules;
      }
      | else-looks_at w ↦ record {
        count = search rules;
        made = rw w.masks-is (IsPassedTo-passed (sym c.looks_at.ensures ∙ w.if-looks_at.false) h.made);
        looked = search rules;
      }
    ]
