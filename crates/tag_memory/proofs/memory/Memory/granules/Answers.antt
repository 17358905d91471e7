use Rattle.std.proofs.Common.{arith}
use Rattle.tag_memory.proofs.PackedLaws.{Packs, count}
use Rattle.tag_memory.proofs.memory.Memory.granules.Goals as goal

pub returns : goal.returns
returns c =
    let p : Packs c.self.inside c.args.self.now = record { view = c.self.view_is; invariant = c.self.invariant } in
    omega (arith, count p, c.self.invariant)
