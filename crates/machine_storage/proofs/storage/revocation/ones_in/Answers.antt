use Rattle.std.proofs.Common.{arith, get_or}
use Rattle.std.specs.Prelude.{count_ones}
use Rattle.std.proofs.lemmas.List.Sums.{sum_by_more}
use Rattle.std.proofs.lemmas.Nat.{ones-le}
use Rattle.machine_storage.proofs.storage.revocation.ones_in.Goals as goal

pub loop-mask-preserved : goal.loop-mask-preserved
loop-mask-preserved c =
    let before = c.loop-mask.invariant in
    let more = sum_by_more count_ones c.args.masks.now c.loop-mask.mask-index 0 c.loop-mask-test.true in
    let few = ones-le 64 (get_or c.args.masks.now c.loop-mask.mask-index 0) (omega (arith, (c.type_inv.masks c.loop-mask.mask-index).fits)) in
    record {
      count = omega (arith, before.count, more);
      most = omega (arith, before.most, few);
    }
