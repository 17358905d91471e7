use Rattle.std.proofs.Common.{◌≡◌, ◌∙◌, inl, inr, sym, arith}
use Rattle.std.proofs.lemmas.Bool.{cases_lt}
use Rattle.machine_storage.proofs.RevokerLaws.{clean-none}
use Rattle.machine_storage.proofs.storage.Storage.has_due_page.Goals.{else-dirty-via-then-dirty+else-is_page_due, else-dirty-via-else-dirty}
use Rattle.machine_storage.proofs.storage.Storage.has_due_page.Goals as goal

pub loop-page-preserved : goal.loop-page-preserved
loop-page-preserved c = λ page lt i of_page. elim (cases_lt page c.loop-page.page) [
  | inl before ↦ c.loop-page.invariant page before i of_page
  | inr from ↦
      let same : page ≡ c.loop-page.page = omega (arith, lt, from) in
      elim c.else-dirty.branch [
        | else-dirty-via-then-dirty+else-is_page_due w ↦ w.is_page_due.ensures.none w.if-is_page_due.false i (of_page ∙ same)
        | else-dirty-via-else-dirty w ↦ clean-none c.args.self.now c.requires.storage c.requires.opened i c.loop-page.page (of_page ∙ same) (sym c.dirty.ensures ∙ w.if-dirty.false)
      ]
]
