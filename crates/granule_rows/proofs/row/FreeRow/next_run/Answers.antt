use Rattle.std.proofs.Common.{◌≡◌, ◌≤◌, ◌∙◌, ℕ, List, MatchOption, ap, sym, subst, arith}
use Rattle.std.proofs.lemmas.List.{get_or_read}
use Rattle.granule_rows.proofs.FindLaws.{some_leaves}
use Rattle.granule_rows.proofs.RowLaws.{next_from, no_run}
use Rattle.granule_rows.specs.Runs.{IsFirstRun, IsRun}
use Rattle.granule_rows.specs.Tree.{no_summary, node}
use Rattle.granule_rows.specs.declared.summary.Summary.{Summary}
use Rattle.granule_rows.proofs.row.FreeRow.next_run.Goals as goal

pub returns-then-index-n : goal.returns-then-index-n
returns-then-index-n c = λ p le run.
    let some = some_leaves _ _ c.self.invariant in
    let root : c.index.result.now ≡ node c.self.inside.nodes.items 1 =
    get_or_read c.self.inside.nodes.items 1 c.index.result.now (omega (arith, some, c.self.invariant.summed.count)) c.index.ensures no_summary in
    let longest = ap (λ (s : Summary). s.longest) root in
    let there = subst (λ (ws : List ℕ). IsRun ws p c.args.n) (sym c.self.view_is) run in
    no_run c.self.inside.words.items c.self.inside.nodes.items c.self.invariant c.args.n (omega (arith, longest, c.if-index-n.true)) p there

pub returns : goal.returns
returns c =
    let words : c.deref-2.result.now ≡ c.args.self.now = c.deref-2.ensures.value ∙ c.self.view_is in
    subst (λ (ws : List ℕ). MatchOption c.first_from.result ((p : ℕ) → c.args.from ≤ p → ¬ IsRun ws p c.args.n) (IsFirstRun ws c.args.from c.args.n)) words
    (next_from c.deref-2.result.now c.args.from c.args.n c.first_from.result c.requires c.first_from.ensures)
