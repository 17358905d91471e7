use Rattle.std.proofs.Common.{◌∙◌, sym, ap, Ok, arith}
use Rattle.std.proofs.lemmas.Result.{err_from_is_err_and}
use Rattle.trace_text.proofs.Reading.{opening_goes_on, opening_is, opening_lacks, opening_stops}
use Rattle.trace_text.proofs.text.read_heap.Goals as goal

pub returns-in_err-base-clause-value : goal.returns-in_err-base-clause-value
returns-in_err-base-clause-value c =
    let p = err_from_is_err_and c.from_residual.result c.from_residual.ensures.1 in
    rw (p.1, p.2) (opening_stops c.loop-line.number c.in_err-base.field-0.0 c.loop-line.rest.now c.in-Some.line c.in-Some.after.now _
    c.in-Some.ensures.line c.in_err-base.ensures.value c.loop-line.invariant.told)

pub returns-in-Some-2-clause-value : goal.returns-in-Some-2-clause-value
returns-in-Some-2-clause-value c =
    opening_is c.loop-line.number c.in-Some-2.base c.in-Some-2.pages c.loop-line.rest.now c.in-Some.line c.in-Some.after.now _
    c.in-Some.ensures.line (ap Ok (sym c.in-Some-2.is) ∙ c.in_ok-base.ensures.value) c.loop-line.invariant.told

pub loop-line-preserved : goal.loop-line-preserved
loop-line-preserved c = record {
  number = omega (arith, c.in-Some.ensures.shorter);
  told = opening_goes_on c.loop-line.number c.loop-line.rest.now c.in-Some.line c.in-Some.after.now _
      c.in-Some.ensures.line (ap Ok (sym c.in_default-2.is) ∙ c.in_ok-base.ensures.value) c.loop-line.invariant.told;
}

pub returns-clause-value : goal.returns-clause-value
returns-clause-value c = opening_lacks c.loop-line.number c.loop-line.rest.now _ c.in_default.ensures.end c.loop-line.invariant.told
