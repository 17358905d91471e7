use Rattle.std.proofs.Common.{arith}
use Rattle.tag_memory.proofs.PackedLaws.{Packs, count, dirty_at}
use Rattle.tag_memory.proofs.memory.Memory.dirty.Goals as goal

pub index-requires : goal.index-requires
index-requires c =
    let p : Packs c.self.inside c.args.self.now = record { view = c.self.view_is; invariant = c.self.invariant } in
    omega (arith, count p, c.self.invariant, c.requires)

pub returns : goal.returns
returns c =
    let p : Packs c.self.inside c.args.self.now = record { view = c.self.view_is; invariant = c.self.invariant } in
    dirty_at p c.args.page c.index.result.now c.requires c.index.ensures
