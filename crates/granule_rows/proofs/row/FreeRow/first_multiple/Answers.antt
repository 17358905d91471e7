use Rattle.std.proofs.Common.{arith}
use Rattle.granule_rows.proofs.AlignLaws.{aligned_from-least, aligned_from-multiple, multiples_from}
use Rattle.granule_rows.proofs.row.FreeRow.first_multiple.Goals as goal

pub loop-from-init : goal.loop-from-init
loop-from-init c = record {
  multiple = rw c.aligned-from.ensures (aligned_from-multiple c.args.origin c.args.unit 0 c.requires.some);
  before = λ q run multiple. rw c.aligned-from.ensures (aligned_from-least c.args.origin c.args.unit 0 q c.requires.some (omega arith) multiple);
}

pub loop-from-preserved : goal.loop-from-preserved
loop-from-preserved c = record {
  multiple = rw c.aligned-from-in-loop-from.ensures (aligned_from-multiple c.args.origin c.args.unit c.in-Some.place c.requires.some);
  before = λ q run multiple. rw c.aligned-from-in-loop-from.ensures
      (multiples_from c.args.origin c.args.unit c.requires.some c.in-Some.ensures c.loop-from.invariant.before q run multiple);
}
