use Rattle.std.proofs.Common.{◌∙◌, ap, arith, cond, Bool, sym, ℕ}
use Rattle.tag_memory.specs.Tags.{is_set}
use Rattle.granule_rows.proofs.CountLaws.{count-more, count-none, no_more}
use Rattle.granule_rows.proofs.count.place_of_one.Goals as goal
use Rattle.granule_rows.proofs.count.place_of_one.Goals.{else-bit, then-bit+else-left-eq0}

pub loop-j-init : goal.loop-j-init
loop-j-init c = omega (arith, count-none (is_set c.args.word))

pub loop-j-preserved : goal.loop-j-preserved
loop-j-preserved c =
    let more = count-more (is_set c.args.word) c.loop-j.j in
    let one : Bool → ℕ = λ b. cond b 1 0 in
    elim c.if-bit.branch [
      | then-bit+else-left-eq0 w ↦ omega (arith, c.loop-j.invariant, more, ap one (sym c.bit.ensures ∙ w.if-bit.true), w.left-is, w.if-left-eq0.false)
      | else-bit w ↦ omega (arith, c.loop-j.invariant, more, ap one (sym c.bit.ensures ∙ w.if-bit.false), w.left-is)
    ]

pub returns-clause-before : goal.returns-clause-before
returns-clause-before c = absurd (no_more c.args.word c.loop-j.j c.loop-j.left c.args.n (omega arith) c.requires c.loop-j.invariant (omega (arith, c.loop-j-test.false)))

pub returns-clause-within : goal.returns-clause-within
returns-clause-within c = absurd (no_more c.args.word c.loop-j.j c.loop-j.left c.args.n (omega arith) c.requires c.loop-j.invariant (omega (arith, c.loop-j-test.false)))

pub returns-clause-one : goal.returns-clause-one
returns-clause-one c = absurd (no_more c.args.word c.loop-j.j c.loop-j.left c.args.n (omega arith) c.requires c.loop-j.invariant (omega (arith, c.loop-j-test.false)))
