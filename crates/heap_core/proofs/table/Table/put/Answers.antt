use Rattle.std.proofs.Common.{ℕ, ◌≡◌, ◌+◌, ◌%◌, subst}
use Rattle.heap_core.proofs.StoredLaws.{first_place, no_place}
use Rattle.heap_core.specs.Table.{IsFirstGap, IsGap, TableState}
use Rattle.heap_core.proofs.table.Table.put.Goals as goal

pub returns-in_err-start-clause-none : goal.returns-in_err-start-clause-none
returns-in_err-start-clause-none c = λ _.
    subst (λ (s : TableState). (p : ℕ) → IsGap s.lengths p c.args.shape.granules → ¬ ((c.args.origin + p) % c.args.shape.unit ≡ 0)) c.self.view_is
    (no_place c.self.inside c.self.invariant c.args.origin c.args.shape.unit c.args.shape.granules c.in_err-start.ensures)

pub returns-clause-first : goal.returns-clause-first
returns-clause-first c =
    subst (λ (s : TableState). IsFirstGap c.args.origin c.args.shape.unit s.lengths c.in_ok-start.start c.args.shape.granules) c.self.view_is
    (first_place c.self.inside c.self.invariant c.in_ok-start.ensures)

pub put_in_gap-requires : goal.put_in_gap-requires
put_in_gap-requires c = record {
  gap = subst (λ (s : TableState). IsGap s.lengths c.in_ok-start.start c.args.shape.granules) c.self.view_is
      (first_place c.self.inside c.self.invariant c.in_ok-start.ensures).run;
}
