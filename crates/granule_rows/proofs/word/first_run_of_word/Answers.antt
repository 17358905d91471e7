use Rattle.std.proofs.Common.{◌≡◌, ◌<◌, subst, arith}
use Rattle.granule_rows.specs.Starts.{AreStarts}
use Rattle.granule_rows.proofs.WordLaws.{AreStarts-more, first_start, no_starts}
use Rattle.granule_rows.proofs.word.first_run_of_word.Goals as goal

pub loop-have-preserved : goal.loop-have-preserved
loop-have-preserved c = record {
  some = omega arith;
  most = omega (arith, c.min-step.ensures);
  starts = AreStarts-more c.args.word _ _ c.loop-have.have c.loop-have.have c.min-step.result _ c.loop-have.invariant.starts c.loop-have.invariant.starts
      (omega (arith, c.min-step.ensures)) (omega arith) (omega arith);
}

pub returns-then-starts-eq0 : goal.returns-then-starts-eq0
returns-then-starts-eq0 c =
    let e : c.loop-have.have ≡ c.args.n = omega (arith, c.loop-have.invariant.most) in
    no_starts c.args.word c.loop-have.starts c.args.n (subst (AreStarts c.args.word c.loop-have.starts) e c.loop-have.invariant.starts) c.if-starts-eq0.true

pub returns : goal.returns
returns c =
    let e : c.loop-have.have ≡ c.args.n = omega (arith, c.loop-have.invariant.most) in
    let some : 0 < c.loop-have.starts = omega arith in
    first_start c.args.word c.loop-have.starts c.args.n (subst (AreStarts c.args.word c.loop-have.starts) e c.loop-have.invariant.starts) some c.loop-have.auto.starts-fits.fits
