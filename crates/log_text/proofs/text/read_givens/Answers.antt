use Rattle.std.proofs.Common.{◌≡◌, ◌<◌, ◌^◌, ◌++◌, ◌∷◌, ◌∙◌, ℕ, [], Ok, All, sym, ap, subst, arith}
use Rattle.std.proofs.lemmas.List.Elements.{All-append, All-cons, All-nil}
use Rattle.std.proofs.lemmas.Result.{err_from_is_err_and}
use Rattle.log_text.specs.declared.given.Early.TheVariants as early
use Rattle.log_text.specs.declared.log.Given.{Given}
use Rattle.log_text.specs.Log.{IsListedGiven, IsValidEarly, IsValidGiven}
use Rattle.log_text.proofs.Texts.{givens_end, givens_go_on, givens_pass, givens_run_out, givens_stop}
use Rattle.log_text.proofs.text.read_givens.Goals as goal
use Rattle.log_text.proofs.text.read_givens.Goals.{in-Passed, in-Given+in_ok-push-in-Given}

pub returns-in_err-early_line-clause-value : goal.returns-in_err-early_line-clause-value
returns-in_err-early_line-clause-value c =
    let p = err_from_is_err_and c.from_residual.result c.from_residual.ensures.1 in
    rw (p.1, p.2) (givens_stop c.loop-line.givens.items c.loop-line.next c.in_err-early_line.field-0.0 c.loop-line.rest.now c.in-Some.line c.in-Some.after.now _
    c.in-Some.ensures.line c.in_err-early_line.ensures.value c.loop-line.invariant.told)

pub returns-in-Event-clause-value : goal.returns-in-Event-clause-value
returns-in-Event-clause-value c =
    givens_end c.loop-line.givens.items c.loop-line.next c.loop-line.rest.now c.in-Some.line c.in-Some.after.now _
    c.in-Some.ensures.line (ap Ok (sym c.in-Event.is) ∙ c.in_ok-early_line.ensures.value) c.loop-line.invariant.told

All-one : (number : ℕ) (given : Given) → number < 2 ^ 32 → IsValidGiven given → All IsListedGiven ((number, given) ∷ [])
All-one number given small valid = All-cons IsListedGiven (number, given) [] (small, valid) (All-nil IsListedGiven)

pub loop-line-preserved : goal.loop-line-preserved
loop-line-preserved c =
    let items = c.loop-line.givens.items in
    let number = c.loop-line.next in
    let value = c.in_ok-early_line.ensures.value in
    elim c.match-branch-2.branch [
      | in-Passed w ↦
          let same : c.match-branch-2.givens.items ≡ items = ap (λ list. list.items) w.givens-is in
          rw same (record {
            valid = c.loop-line.invariant.valid;
            number = omega (arith, c.in-Some.ensures.shorter, c.loop-line.invariant.number);
            told = givens_pass items number c.loop-line.rest.now c.in-Some.line c.in-Some.after.now _ c.in-Some.ensures.line (ap Ok (sym w.in-Passed.is) ∙ value) c.loop-line.invariant.told;
          })
      | in-Given+in_ok-push-in-Given w ↦
          let given = w.in-Given.given in
          let more : c.match-branch-2.givens.items ≡ items ++ ((number, given) ∷ []) = ap (λ list. list.items) w.givens-is ∙ w.in_ok-push-in-Given.ensures.items in
          let is_valid : IsValidEarly (early.Given given) = subst IsValidEarly w.in-Given.is c.in_ok-early_line.ensures.valid in
          let valid : All IsListedGiven ((number, given) ∷ []) = All-one number given (omega arith) is_valid in
          rw more (record {
            valid = All-append IsListedGiven items ((number, given) ∷ []) c.loop-line.invariant.valid valid;
            number = omega (arith, c.in-Some.ensures.shorter, c.loop-line.invariant.number);
            told = givens_go_on items number c.loop-line.rest.now c.in-Some.line c.in-Some.after.now given _ c.in-Some.ensures.line (ap Ok (sym w.in-Given.is) ∙ value) c.loop-line.invariant.told;
          })
    ]

pub returns-clause-value : goal.returns-clause-value
returns-clause-value c = givens_run_out c.loop-line.givens.items c.loop-line.next c.loop-line.rest.now _ c.in_default.ensures.end c.loop-line.invariant.told
