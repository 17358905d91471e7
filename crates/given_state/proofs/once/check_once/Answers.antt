use Rattle.given_state.proofs.OnceLaws.{AreOnceNoted-empty, AreOnceNoted-more, IsGivenAgain-at, lacks_some}
use Rattle.given_state.proofs.once.check_once.Goals.{in-Some+in_default-lack_again, in_default-found}
use Rattle.given_state.proofs.once.check_once.Goals as goal

pub loop-line-init : goal.loop-line-init
loop-line-init c = let none = AreOnceNoted-empty c.new-noted.result c.new-noted.ensures.empty in record { once = none.once; noted = none.noted }

pub returns-in-Some-lack_again-clause-fault : goal.returns-in-Some-lack_again-clause-fault
returns-in-Some-lack_again-clause-fault c =
    IsGivenAgain-at c.loop-line.noted c.note.new.noted c.args.givens.now c.loop-line.line-index _ c.in-Ok.found c.in-Some.earlier c.in-Some-lack_again.lack
    c.loop-line-test.true (record { once = c.loop-line.invariant.once; noted = c.loop-line.invariant.noted }) c.in-Some.is c.in-Ok.ensures c.in-Some-lack_again.ensures

pub loop-line-preserved : goal.loop-line-preserved
loop-line-preserved c =
    elim c.match-found.branch [
      | in-Some+in_default-lack_again w ↦
          absurd (lacks_some c.loop-line.noted c.note.new.noted _ c.in-Ok.found w.in-Some.earlier w.lack_again.result w.in-Some.is c.in-Ok.ensures w.in_default-lack_again.is w.lack_again.ensures)
      | in_default-found w ↦
          let more =
          AreOnceNoted-more c.loop-line.noted c.note.new.noted c.args.givens.now c.loop-line.line-index _ c.in-Ok.found c.loop-line-test.true
          (record { once = c.loop-line.invariant.once; noted = c.loop-line.invariant.noted }) w.in_default-found.is c.in-Ok.ensures in
          record { once = more.once; noted = more.noted }
    ]
