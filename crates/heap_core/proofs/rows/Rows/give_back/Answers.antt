use Rattle.std.proofs.Common.{◌/◌, inl, inr, arith}
use Rattle.std.proofs.lemmas.Bool.{cases_lt}
use Rattle.heap_core.proofs.RowLaws.{AreGiven-then, given_all_free, given_all_starts, nothing_held}
use Rattle.heap_core.proofs.rows.Rows.give_back.Goals as goal

pub returns-clause-due : goal.returns-clause-due
returns-clause-due c =
    let done = c.loop-w.invariant in
    nothing_held done.rows (λ page lt. done.gone page (omega (arith, lt, done.given.marks, c.len-w-end.ensures, c.loop-w-test.false)))

pub returns-clause-free : goal.returns-clause-free
returns-clause-free c = given_all_free c.loop-w.invariant.given (returns-clause-due c)

pub returns-clause-starts : goal.returns-clause-starts
returns-clause-starts c = given_all_starts c.loop-w.invariant.given (returns-clause-due c)

pub loop-w-preserved : goal.loop-w-preserved
loop-w-preserved c =
    let done = c.loop-w.invariant in
    let next = c.give_pages.ensures in
    record {
      rows = next.rows;
      given = AreGiven-then done.given next.given;
      gone = λ page lt. elim (cases_lt (page / 64) c.loop-w.w) [
        | inl before ↦ next.given.due_pages page (done.gone page before)
        | inr from ↦ next.gone page (omega arith)
      ];
    }
