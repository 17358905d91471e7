use Rattle.std.proofs.Common.{◌≤◌, ◌+◌, ◌*◌, arith}
use Rattle.std.proofs.lemmas.Nat.{mul-le}
use Rattle.sweep_pool.proofs.PaintLaws.{share_limit, share_order}
use Rattle.sweep_pool.proofs.painting.share_of.Goals as goal

pub overflow_mul-first : goal.overflow_mul-first
overflow_mul-first g =
    let few : g.args.number * g.args.blocks ≤ 64 * 262144 = mul-le g.args.number g.args.blocks 64 262144 (omega (arith, g.requires.number, g.requires.workers)) g.requires.blocks in
    record { fits = omega (arith, few) }

pub overflow_mul-last : goal.overflow_mul-last
overflow_mul-last g =
    let few : (g.args.number + 1) * g.args.blocks ≤ 64 * 262144 = mul-le (g.args.number + 1) g.args.blocks 64 262144 (omega (arith, g.requires.number, g.requires.workers)) g.requires.blocks in
    record { fits = omega (arith, few) }

pub returns-clause-order : goal.returns-clause-order
returns-clause-order g =
    omega (arith, share_order g.args.blocks g.args.workers g.args.number (omega (arith, g.requires.number)))

pub returns-clause-within : goal.returns-clause-within
returns-clause-within g =
    omega (arith, share_limit g.args.blocks g.args.workers (g.args.number + 1) (omega (arith, g.requires.number)))
