use Rattle.std.proofs.Common.{◌∙◌, ◌+◌, ◌*◌, ◌/◌, subst, sym, arith}
use Rattle.granule_rows.proofs.RenewLaws.{AreSummed-set, IsSane-joined, node-other}
use Rattle.granule_rows.specs.Tree.{IsSane}
use Rattle.granule_rows.proofs.tree.renew_level.Goals as goal

pub loop-k-preserved : goal.loop-k-preserved
loop-k-preserved c =
    let inv = c.loop-k.invariant in
    let left = inv.summed.sane (2 * c.loop-k.k) (omega arith) in
    let right = inv.summed.sane (2 * c.loop-k.k + 1) (omega arith) in
    record {
      summed = AreSummed-set c.args.leaves c.loop-k.nodes c.loop-k.k c.args.end (c.args.low / 2) ((c.args.end + 1) / 2) c.loop-k.k (c.loop-k.k + 1) c.joined.result inv.summed
          (omega arith) (omega arith) (omega arith) (subst (IsSane c.args.leaves c.loop-k.k) (sym c.joined.ensures.value) (IsSane-joined c.args.leaves c.loop-k.k _ _ left right)) (λ some lt. c.joined.ensures.value) (λ j one other from. one (omega arith));
      leaves = λ i le. node-other c.loop-k.nodes c.loop-k.k i c.joined.result (λ e. absurd (omega arith)) ∙ inv.leaves i le;
    }
