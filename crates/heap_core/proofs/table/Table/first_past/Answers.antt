use Rattle.std.proofs.Common.{◌≡◌, inl, inr, subst, arith}
use Rattle.std.proofs.lemmas.Bool.{cases_lt}
use Rattle.heap_core.specs.Consistent.{either_mark}
use Rattle.heap_model.specs.Shadow.{bits_of}
use Rattle.heap_core.specs.Table.{ReachesPast, has_mark}
use Rattle.heap_core.proofs.table.Table.first_past.Goals as goal

pub loop-start-init : goal.loop-start-init
loop-start-init c = λ k lt reaches. absurd (omega (arith, c.reaching_start-start.ensures.before k lt, reaches.past))

pub returns-then-is_past : goal.returns-then-is_past
returns-then-is_past c = (omega arith, record { reaches = c.is_past.ensures.yes c.if-is_past.true; least = c.loop-start.invariant })

pub loop-start-preserved : goal.loop-start-preserved
loop-start-preserved c = λ k lt reaches.
    elim (cases_lt k c.loop-start.start) [
      | inl before ↦ c.loop-start.invariant k before reaches
      | inr here ↦
          let same : k ≡ c.loop-start.start = omega arith in
          c.is_past.ensures.no c.if-is_past.false
          (subst (λ i. ReachesPast (has_mark c.args.wants_held) c.args.self.now.lengths (either_mark c.args.self.now.marks (bits_of c.args.late.now)) c.args.first i) same reaches)
    ]

pub returns : goal.returns
returns c = λ k lt reaches. c.loop-start.invariant k (omega (arith, c.loop-start-test.false)) reaches
