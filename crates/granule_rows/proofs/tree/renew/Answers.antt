use Rattle.std.proofs.Common.{◌+◌, length, arith}
use Rattle.granule_rows.proofs.RenewLaws.{AreSummed-set, IsLeaf-set, IsSane-leaf}
use Rattle.granule_rows.proofs.tree.renew.Goals as goal

pub loop-w-preserved : goal.loop-w-preserved
loop-w-preserved c =
    let inv = c.loop-w.invariant in
    record {
      summed = AreSummed-set (length c.args.words.now) c.loop-w.nodes 0 0 _ _ (length c.args.words.now + c.loop-w.w) 0 c.summary_of_word.result inv.summed
          (omega arith) (omega arith) (omega arith) (IsSane-leaf _ c.loop-w.w _ _ (omega arith) c.summary_of_word.ensures) (λ some lt. absurd (omega arith)) (λ j one other from. omega arith);
      leaves = λ v lt done. IsLeaf-set c.args.words.now c.loop-w.nodes c.loop-w.w v c.summary_of_word.result inv.summed.count (omega arith) lt c.summary_of_word.ensures (λ other. inv.leaves v lt (λ from. done (omega arith)));
    }
