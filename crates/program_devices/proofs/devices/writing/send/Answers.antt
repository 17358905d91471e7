use Rattle.std.proofs.Common.{rules}
use Rattle.std.proofs.lemmas.Result.{err_from_is_err_and}
use Rattle.program_devices.proofs.SendLemmas.{TookUpTo-more, TookUpTo-stops}
use Rattle.program_devices.proofs.devices.writing.send.Goals as goal

pub returns-in_err-count-clause-err : goal.returns-in_err-count-clause-err
returns-in_err-count-clause-err g c =
    let p = err_from_is_err_and c.from_residual.result c.from_residual.ensures.1 in
    rw p.1 (TookUpTo-stops _ _ _ _ _ c.loop-rest.invariant.0 c.in_err-count.ensures.bytes)

pub loop-rest-preserved : goal.loop-rest-preserved
loop-rest-preserved g c =
    (TookUpTo-more _ _ c.in_ok-count.count _ _ _ c.loop-rest.invariant.0 c.in_ok-count.ensures.bytes, search rules)
